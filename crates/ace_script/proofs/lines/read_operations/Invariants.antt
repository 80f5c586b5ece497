use Rattle.std.proofs.Common.{◌≡◌, ◌-◌, List, ℕ, Option, length}
use Rattle.std.specs.Io.KnownBytes.{Consumes}
use Rattle.ace_io.specs.Reader.{source_of, waiting}
use Rattle.ace_model.specs.Plans.{most_operations}
use Rattle.ace_script.specs.Text.{plan_text}
use Rattle.ace_script.specs.Grammar.{IsScript}
use Rattle.ace_script.proofs.lines.read_operations.Given as goal

abbrev pub invariant-operations : goal.invariant-operations
invariant-operations g l = record {
  no_room : l.view.room ≡ 0;
  script : IsScript l.view.plan;
  same_source : (source_of l.lines).ghost_name ≡ (source_of l.initial.lines).ghost_name;
  text : (bytes : Option (List ℕ)) → Consumes bytes (waiting g.S.Source.left l.initial.lines) (plan_text l.initial.view.plan)
      → Consumes bytes (waiting g.S.Source.left l.lines) (plan_text l.view.plan);
  faults : g.S.Source.faults (source_of l.lines).now ≡ g.S.Source.faults (source_of l.initial.lines).now;
}

abbrev pub decreases-operations : goal.decreases-operations
decreases-operations g l = most_operations - length l.view.plan.operations
