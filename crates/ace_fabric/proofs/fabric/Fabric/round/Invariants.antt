use Rattle.std.proofs.Common.{◌≡◌, ◌<◌, ℕ, false, List, length, IsTrue}
use Rattle.ace_event.specs.declared.event.Event.{Event}
use Rattle.ace_runs.specs.Steps.{is_enabled}
use Rattle.ace_fabric.specs.Runs.{continued}
use Rattle.ace_fabric.proofs.fabric.Fabric.round.Given as goal

abbrev pub invariant-loop-port : goal.invariant-loop-port
invariant-loop-port g l = record {
  kept : (events : List Event) × (l.self ≡ continued events l.fn.self);
  longer : IsTrue l.moved → length l.fn.self.past < length l.self.past;
  idle : l.moved ≡ false → (l.self ≡ l.fn.self) × ((p : ℕ) → p < l.port → is_enabled l.fn.self.plan l.fn.self.past p ≡ false);
}
