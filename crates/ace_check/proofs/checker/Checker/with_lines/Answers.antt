use Rattle.std.proofs.Common.{refl, arith}
use Rattle.ace_check.proofs.checker.Checker.with_lines.Goals as goal

pub returns-clause-stands : goal.returns-clause-stands
returns-clause-stands c = record {
  limit = c.in-Ok.ensures.most;
  tell = c.in-Ok.ensures.tell;
  count = refl;
  few = omega arith;
  broken = refl;
  fits = tt;
}
