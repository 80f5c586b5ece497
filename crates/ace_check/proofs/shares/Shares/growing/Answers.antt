use Rattle.ace_check.proofs.shares.Shares.growing.Goals as goal

pub returns-clause-tell : goal.returns-clause-tell
returns-clause-tell c = record {
  ports = c.in_ok-ports.ensures c.requires;
  lines = c.new-lines.ensures c.requires;
  system = c.in_ok-system.ensures c.requires;
}
