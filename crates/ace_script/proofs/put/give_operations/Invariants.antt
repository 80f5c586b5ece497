use Rattle.std.proofs.Common.{◌≡◌, ◌≤◌, ◌++◌, List, ℕ, Option, length, take}
use Rattle.ace_script.specs.Text.{operations_text}
use Rattle.ace_script.specs.Written.{IsWaiting}
use Rattle.ace_script.proofs.put.give_operations.Given as goal

abbrev pub invariant-loop-o : goal.invariant-loop-o
invariant-loop-o g l = record {
  within : l.o-index ≤ length l.operations;
  waiting : (before : Option (List ℕ)) (front : List ℕ) → IsWaiting before (g.K.Sink.held l.initial.sink) l.initial.text front
      → IsWaiting before (g.K.Sink.held l.sink) l.text (front ++ operations_text (take l.o-index l.operations));
  faults : g.K.Sink.faults l.sink ≡ g.K.Sink.faults l.initial.sink;
}
