use Rattle.ace_master.proofs.lite.LiteMaster.op.Goals as goal

pub returns : goal.returns
returns c = λ plan past s. c.retirement.ensures plan past s.port
