use Rattle.std.proofs.Common.{◌≡◌}
use Rattle.std.specs.List.{list_any}
use Rattle.ace_model.specs.Grants.{ports_below}
use Rattle.ace_lineck.specs.Grants.{stage_at}
use Rattle.ace_lineck.specs.Waiting.{is_owing}
use Rattle.ace_lineck.proofs.looks.is_some_owing.Given as goal

abbrev pub invariant-loop-port : goal.invariant-loop-port
invariant-loop-port l = l.some ≡ list_any (λ q. is_owing (stage_at l.stages q)) (ports_below l.port)
