-- With which outcomes a call ends.
use Rattle.std.specs.Prelude.{◌≡◌, ◌⊎◌, ⊤}
use Rattle.ace_event.specs.declared.event.Outcome.{Outcome}
use Rattle.ace_event.specs.declared.event.Outcome.TheVariants.{Ok, Skip, Fail}
use Rattle.ace_model.specs.declared.plans.Op.{Op}
use Rattle.ace_model.specs.declared.plans.Op.TheVariants.{Ld, Ldx, St, Stx, Wb}

-- A load or a store is done; an exclusive store is done or fails; a WriteBack is done, or finds
-- nothing to write back. Of other operations, which are no calls, it says nothing.
abbrev pub CanEnd : Op → Outcome → Type 0
CanEnd (Ld a w) res = res ≡ Ok
CanEnd (Ldx a w) res = res ≡ Ok
CanEnd (St a w word) res = res ≡ Ok
CanEnd (Stx a w word) res = (res ≡ Ok) ⊎ (res ≡ Fail)
CanEnd (Wb a) res = (res ≡ Ok) ⊎ (res ≡ Skip)
CanEnd _ res = ⊤
