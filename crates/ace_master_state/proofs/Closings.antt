-- Which events end an operation, case by case.
use Rattle.std.proofs.Common.{◌≡◌, ℕ, Bool, true, false, if◌then◌else◌, List, [], refl, ◌∙◌}
use Rattle.ace_event.specs.declared.event.Event.{Event}
use Rattle.ace_event.specs.declared.event.Outcome.TheVariants.{Ok, Skip, Fail}
use Rattle.ace_event.specs.declared.header.Header.{Header}
use Rattle.ace_model.specs.declared.plans.Op.{Op}
use Rattle.ace_model.specs.Trace.{Trace}
use Rattle.ace_runs.specs.Closing.{access_and_retirement, access_of, closing_of, gives_access, retirement, state_named}
use Rattle.ace_runs.specs.Retiring.{may_retire}

-- the first of these lists whose test holds
abbrev picks : Bool → Bool → Bool → Bool → List Event → List Event → List Event → List Event → List Event
picks a b c d x y z w = if a then x else if b then y else if c then z else if d then w else []

first : (a b c d : Bool) (x y z w : List Event) → a ≡ true → picks a b c d x y z w ≡ x
first true b c d x y z w t = refl
first false b c d x y z w t = cc

second : (a b c d : Bool) (x y z w : List Event) → a ≡ false → b ≡ true → picks a b c d x y z w ≡ y
second false true c d x y z w f t = refl
second a b c d x y z w f t = cc

third : (a b c d : Bool) (x y z w : List Event) → a ≡ false → b ≡ false → c ≡ true → picks a b c d x y z w ≡ z
third false false true d x y z w f g t = refl
third a b c d x y z w f g t = cc

fourth : (a b c d : Bool) (x y z w : List Event) → a ≡ false → b ≡ false → c ≡ false → picks a b c d x y z w ≡ (if d then w else [])
fourth false false false d x y z w f g i = refl
fourth a b c d x y z w f g i = cc

module _ (h : Header) (past : Trace) (p : ℕ) (op : Op) where
  closing-is : closing_of h past p op
      ≡ picks (may_retire h past p op Ok) (may_retire h past p op Skip) (may_retire h past p op Fail) (gives_access op (state_named h past p op))
      (retirement past p Ok) (retirement past p Skip) (retirement past p Fail) (access_and_retirement past p (access_of past p op))
  unfolding closing_of
  closing-is = refl

  pub closes-ok : may_retire h past p op Ok ≡ true → closing_of h past p op ≡ retirement past p Ok
  closes-ok ok = closing-is ∙ first (may_retire h past p op Ok) (may_retire h past p op Skip) (may_retire h past p op Fail) (gives_access op (state_named h past p op))
      (retirement past p Ok) (retirement past p Skip) (retirement past p Fail) (access_and_retirement past p (access_of past p op)) ok

  pub closes-skip : may_retire h past p op Ok ≡ false → may_retire h past p op Skip ≡ true → closing_of h past p op ≡ retirement past p Skip
  closes-skip ok skip = closing-is ∙ second (may_retire h past p op Ok) (may_retire h past p op Skip) (may_retire h past p op Fail) (gives_access op (state_named h past p op))
      (retirement past p Ok) (retirement past p Skip) (retirement past p Fail) (access_and_retirement past p (access_of past p op)) ok skip

  pub closes-fail : may_retire h past p op Ok ≡ false → may_retire h past p op Skip ≡ false → may_retire h past p op Fail ≡ true → closing_of h past p op ≡ retirement past p Fail
  closes-fail ok skip fail = closing-is ∙ third (may_retire h past p op Ok) (may_retire h past p op Skip) (may_retire h past p op Fail) (gives_access op (state_named h past p op))
      (retirement past p Ok) (retirement past p Skip) (retirement past p Fail) (access_and_retirement past p (access_of past p op)) ok skip fail

  -- it can't retire yet
  pub closes-access : may_retire h past p op Ok ≡ false → may_retire h past p op Skip ≡ false → may_retire h past p op Fail ≡ false
      → closing_of h past p op ≡ (if gives_access op (state_named h past p op) then access_and_retirement past p (access_of past p op) else [])
  closes-access ok skip fail = closing-is ∙ fourth (may_retire h past p op Ok) (may_retire h past p op Skip) (may_retire h past p op Fail) (gives_access op (state_named h past p op))
      (retirement past p Ok) (retirement past p Skip) (retirement past p Fail) (access_and_retirement past p (access_of past p op)) ok skip fail
