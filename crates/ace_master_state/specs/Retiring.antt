-- What a port is told of its exclusive stores.
use Rattle.std.specs.Prelude.{ℕ, ◌≡◌, Bool, ⊤}
use Rattle.ace_model.specs.declared.plans.Op.{Op}
use Rattle.ace_model.specs.declared.plans.Op.TheVariants.{Stx}
use Rattle.ace_model.specs.Trace.{Trace}
use Rattle.ace_runs.specs.Retiring.{has_failed_store}

-- Of an exclusive store: whether the interconnect refused one on its line that was issued for the
-- port's next operation.
abbrev pub IsToldOf : Trace → ℕ → Op → Bool → Type 0
IsToldOf past p (Stx a w word) refused = refused ≡ has_failed_store past p a
IsToldOf past p _ refused = ⊤
