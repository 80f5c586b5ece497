use Rattle.ace_master.proofs.ace.AceMaster.push.Goals as goal

pub push-requires : goal.push-requires
push-requires g c = let r = c.requires in (r.0, r.1, r.2.port, r.3)

pub returns-clause-stands : goal.returns-clause-stands
returns-clause-stands g c = λ plan past s right. record { port = c.push.ensures.stands plan past s.port right; picks = s.picks }
