use Rattle.ace_portck.proofs.port.PortRecord.new.Goals as goal

pub returns-clause-stands : goal.returns-clause-stands
returns-clause-stands c = λ h p. record {
  transactions = c.in_ok-transactions.ensures h p;
  snoops = c.in-Ok.ensures.stands p;
  bursts = c.in_ok-bursts.ensures h p;
  retired = c.new-3.ensures p;
}
