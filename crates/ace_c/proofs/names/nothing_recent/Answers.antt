use Rattle.std.proofs.Common.{arith}
use Rattle.std.proofs.lemmas.List.Elements.{All-replicate}
use Rattle.ace_c.specs.Naming.{IsRecent}
use Rattle.ace_c.proofs.names.nothing_recent.Goals as goal

pub returns : goal.returns
returns c = λ lines. All-replicate (IsRecent lines) 1024 (record { line = 0; name = 4294967295 }) (λ small. absurd (omega (arith, small)))
