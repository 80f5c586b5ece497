use Rattle.ace_portck.proofs.port.PortRecord.hear.Goals as goal

pub returns-clause-stands : goal.returns-clause-stands
returns-clause-stands c = λ past heard bytes s room. record {
  transactions = c.hear.ensures past heard bytes s.transactions;
  snoops = c.hear-2.ensures.stands c.args.header.now past c.args.port heard s.snoops room;
  bursts = c.hear-3.ensures c.args.header.now past c.args.port heard s.bursts;
  retired = c.hear-4.ensures c.args.header.now past c.args.place c.args.port heard s.retired;
}
