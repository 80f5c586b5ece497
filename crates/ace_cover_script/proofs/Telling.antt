-- The script of a number was told.
use Rattle.std.proofs.Common.{◌≡◌, ℕ, List, Option, refl, subst}
use Rattle.std.specs.Io.KnownBytes.{Appends}
use Rattle.std.proofs.KnownBytes.{Appends-nil}
use Rattle.ace_model.specs.Plans.{PlanWithRoom}
use Rattle.ace_script.specs.Text.{plan_text}
use Rattle.ace_cover_script.specs.Covering.{covering}
use Rattle.ace_cover_script.specs.Generates.{Tells}

pub script_told : (number : ℕ) (plan : PlanWithRoom) (out out' notes : Option (List ℕ)) → plan ≡ record { plan = covering number; room = 0 }
    → Appends out out' (plan_text plan.plan) → Tells (plan_text (covering number)) out out' notes notes 0
script_told number plan out out' notes is given = (refl, subst (λ (p : PlanWithRoom). Appends out out' (plan_text p.plan)) is given, Appends-nil notes)
