-- What it says of an operation that it can't end: it may retire with no outcome, and its line doesn't give the access that it lacks.
use Rattle.std.proofs.Common.{◌≡◌, ℕ, Bool, true, false, ◌&&◌, if◌then◌else◌, List, [], ◌∷◌, Some, refl, sym, ap, ◌∙◌}
use Rattle.std.proofs.lemmas.Bool.{eq-eqb, false_from_ne_true}
use Rattle.ace_event.specs.declared.event.Event.{Event}
use Rattle.ace_event.specs.declared.event.Outcome.TheVariants.{Ok, Skip, Fail}
use Rattle.ace_event.specs.declared.header.Header.{Header}
use Rattle.ace_model.specs.declared.plans.Op.{Op}
use Rattle.ace_model.specs.Trace.{Trace}
use Rattle.ace_runs.specs.Closing.{access_and_retirement, access_of, closing_of, gives_access, state_named}
use Rattle.ace_runs.specs.Retiring.{may_fail, may_retire, may_skip}
use Rattle.ace_runs.specs.Segments.{acts_made}

pub record CanNotEnd (h : Header) (past : Trace) (p : ℕ) (op : Op) : Type 0 where
  pub not_ok : may_retire h past p op Ok ≡ false
  pub not_skip : may_retire h past p op Skip ≡ false
  pub not_fail : may_retire h past p op Fail ≡ false
  pub no_access : gives_access op (state_named h past p op) ≡ true → access_and_retirement past p (access_of past p op) ≡ []

-- the first of three that are not empty, or the fourth
none-chosen : (a b c d : Bool) (x y z : Event) (w : List Event)
    → (if a then x ∷ [] else if b then y ∷ [] else if c then z ∷ [] else if d then w else []) ≡ [] → (a ≡ false) × (b ≡ false) × (c ≡ false) × (d ≡ true → w ≡ [])
none-chosen true b c d x y z w e = cc
none-chosen false true c d x y z w e = cc
none-chosen false false true d x y z w e = cc
none-chosen false false false true x y z w e = (refl, refl, refl, λ t. e)
none-chosen false false false false x y z w e = (refl, refl, refl, λ t. cc)

pub can-not-end : (h : Header) (past : Trace) (p : ℕ) (op : Op) → closing_of h past p op ≡ [] → CanNotEnd h past p op
unfolding closing_of
can-not-end h past p op none =
    let all = none-chosen (may_retire h past p op Ok) (may_retire h past p op Skip) (may_retire h past p op Fail) (gives_access op (state_named h past p op)) _ _ _
    (access_and_retirement past p (access_of past p op)) none in
    record { not_ok = all.0; not_skip = all.1; not_fail = all.2; no_access = all.3 }

module _ (h : Header) (past : Trace) (p : ℕ) (op : Op) (made : acts_made past p ≡ 0) (c : CanNotEnd h past p op) where
  -- with no act, nothing is left out and nothing failed
  pub not-skipped : may_skip h past p op ≡ false
  not-skipped = ap (λ b. b && may_skip h past p op) (sym (eq-eqb (acts_made past p) 0 made)) ∙ c.not_skip

  pub not-failed : may_fail h past p op ≡ false
  not-failed = ap (λ b. b && may_fail h past p op) (sym (eq-eqb (acts_made past p) 0 made)) ∙ c.not_fail

  -- the line doesn't give the access
  pub no-access : (e : Event) → access_of past p op ≡ Some e → gives_access op (state_named h past p op) ≡ false
  no-access e is =
      false_from_ne_true (gives_access op (state_named h past p op)) (λ gives.
      let none = c.no_access gives in
      let bad : access_and_retirement past p (Some e) ≡ [] = ap (access_and_retirement past p) (sym is) ∙ none in cc)
