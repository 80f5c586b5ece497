-- Between the steps of a run the next operation of an ACE port can't retire with `ok`: the step by which it could comes with its OP. So step 4 ends
-- an operation without an acknowledge at ACE-Lite ports alone.
use Rattle.std.proofs.Common.{◌≡◌, ℕ, true, false, not, ◌==◌, List, [], Option, Some, None, inl, inr, refl, sym, ap, subst, ◌∙◌}
use Rattle.std.specs.List.{list_all}
use Rattle.std.proofs.lemmas.Bool.{and_parts, cases_Bool, eqb-true, or_left, or_right}
use Rattle.ace_event.specs.declared.event.Event.{Event}
use Rattle.ace_event.specs.declared.event.Event.TheVariants.{R, W, B, Ac, G, M, Mem}
use Rattle.ace_event.specs.declared.event.Outcome.TheVariants.{Ok}
use Rattle.ace_model.specs.declared.plans.Op.{Op}
use Rattle.ace_model.specs.Accepted.{IsAccepted}
use Rattle.ace_model.specs.Plans.{Plan}
use Rattle.ace_model.specs.Trace.{Trace, is_some_and, port_of}
use Rattle.ace_model.specs.Transactions.{is_ace}
use Rattle.ace_model.proofs.General.Options.{is_some_and-is}
use Rattle.ace_runs.specs.Bursts.{are_kept, onto}
use Rattle.ace_runs.specs.MasterSteps.{acknowledges, answers_snoop, goes_on, has_due, is_finished}
use Rattle.ace_runs.specs.Operations.{next_operation}
use Rattle.ace_runs.specs.Retiring.{may_retire}
use Rattle.ace_runs.specs.Segments.{is_at_port}
use Rattle.ace_runs.specs.Steps.{AreSteps, is_step}
use Rattle.ace_runs.proofs.Accepting.{accepted-after}
use Rattle.ace_runs.proofs.Turns.{of-each-run, step-kept}
use Rattle.ace_runs.proofs.NeverStuck.Steps.Lists.{all-implied}
use Rattle.ace_runs.proofs.NeverStuck.Steps.MasterSteps.{is_beside, master-step}
use Rattle.ace_runs.proofs.NeverStuck.Phases.Acknowledged.{acknowledges-stay}
use Rattle.ace_runs.proofs.NeverStuck.Phases.Answered.{answers-stay}
use Rattle.ace_runs.proofs.NeverStuck.Phases.Calm.{may_end}
use Rattle.ace_runs.proofs.NeverStuck.Phases.CalmEvents.{calm-burst, is_calm, is_calm_here}
use Rattle.ace_runs.proofs.NeverStuck.Phases.Endings.{fresh-stays}
use Rattle.ace_runs.proofs.NeverStuck.Phases.GoneOn.{goes-on-stays}
use Rattle.ace_runs.proofs.NeverStuck.Phases.OwnEvents.{acknowledges-own, answers-own, are_own, goes-on-own}

-- ---- events ----------------------------------------------------------------------------------------

beside-calm : (p : ℕ) (e : Event) → is_beside e ≡ true → is_calm p e ≡ true
beside-calm p (R q i resp last word) m = or_right (not (q == p)) true refl
beside-calm p (W q strb last word) m = or_right (not (q == p)) true refl
beside-calm p (B q i resp) m = or_right (not (q == p)) true refl
beside-calm p (Ac q addr snoop) m = or_right (not (q == p)) true refl
beside-calm p (G q c i) m = or_right (not (q == p)) true refl
beside-calm p (M q c i line) m = or_right (not (q == p)) true refl
beside-calm p (Mem addr line) m = refl
beside-calm p e m = cc

-- an event of another port
own-calm : (p q : ℕ) (e : Event) → (q == p) ≡ false → is_at_port q e ≡ true → is_calm p e ≡ true
own-calm p q e apart at =
    let r = is_some_and-is (port_of e) (λ r. r == q) at in
    let other : is_at_port p e ≡ false = ap (λ o. is_some_and o (λ v. v == p)) r.1 ∙ ap (λ v. v == p) (eqb-true r.0 q r.2) ∙ apart in
    or_left (not (is_at_port p e)) (is_calm_here e) (ap not other)

-- ---- each step ---------------------------------------------------------------------------------------

module _ (plan : Plan) (past : Trace) (p q : ℕ) (burst : List Event) (ace : is_ace plan.header p ≡ true) (a : IsAccepted plan.header past) (kept : are_kept plan.header past burst ≡ true)
    (before : may_end plan past p ≡ false) where
  abbrev Stays : Type 0
  Stays = may_end plan (onto burst past) p ≡ false

  beside-stays : list_all is_beside burst ≡ true → Stays
  beside-stays all = calm-burst plan burst past p ace a kept (all-implied is_beside (is_calm p) (beside-calm p) burst all) before

  -- a step of the port's own, or of another port
  own-stays : are_own q burst ≡ true → (q ≡ p → Stays) → Stays
  own-stays own here =
      elim (cases_Bool (q == p)) [
        | inl t ↦ here (eqb-true q p t)
        | inr f ↦ calm-burst plan burst past p ace a kept (all-implied (is_at_port q) (is_calm p) (λ e at. own-calm p q e f at) burst own) before
      ]

  answers-stays : answers_snoop plan.header past q burst ≡ true → Stays
  answers-stays g =
      own-stays (answers-own plan.header past q burst g)
      (λ port. answers-stay plan past p ace a before burst kept (subst (λ r. answers_snoop plan.header past r burst ≡ true) port g))

  acknowledges-stays : acknowledges (next_operation plan past q) plan.header past q burst ≡ true → Stays
  acknowledges-stays g =
      own-stays (acknowledges-own (next_operation plan past q) plan.header past q burst g)
      (λ port. acknowledges-stay plan past p burst a kept before (subst (λ r. acknowledges (next_operation plan past r) plan.header past r burst ≡ true) port g))

  moves-stays : goes_on plan.ways (next_operation plan past q) plan.header past q burst ≡ true → Stays
  moves-stays g =
      own-stays (goes-on-own plan.ways (next_operation plan past q) plan.header past q burst g)
      (λ port. goes-on-stays plan past p burst a kept before (subst (λ r. goes_on plan.ways (next_operation plan past r) plan.header past r burst ≡ true) port g))

step-stays : (plan : Plan) (past : Trace) (p q : ℕ) (burst : List Event) → is_ace plan.header p ≡ true → IsAccepted plan.header past → may_end plan past p ≡ false
    → is_step plan past q burst ≡ true → may_end plan (onto burst past) p ≡ false
step-stays plan past p q burst ace a before s =
    let kept = step-kept plan past q burst s in
    elim (master-step plan past q burst s) [
      | inl g ↦ answers-stays plan past p q burst ace a kept before g
      | inr (inl g) ↦ acknowledges-stays plan past p q burst ace a kept before g
      | inr (inr (inl g)) ↦ moves-stays plan past p q burst ace a kept before g
      | inr (inr (inr all)) ↦ beside-stays plan past p q burst ace a kept before all
    ]

-- In a run the next operation of an ACE port can't retire with `ok`.
pub never-finished : (plan : Plan) (past : Trace) (p : ℕ) → AreSteps plan past → is_ace plan.header p ≡ true → may_end plan past p ≡ false
never-finished plan past p s ace =
    (of-each-run plan (λ t. IsAccepted plan.header t × (may_end plan t p ≡ false)) (tt, first (next_operation plan [] p))
    (λ before q burst both step.
    (accepted-after plan.header burst before both.0 (step-kept plan before q burst step), step-stays plan before p q burst ace both.0 both.1 step))
    past s).1
  where
    first : (n : Option Op) → is_some_and n (λ o. may_retire plan.header [] p o Ok) ≡ false
    first None = refl
    first (Some o) = fresh-stays plan.header [] p o refl refl

-- So a port that retires an operation without an acknowledge is an ACE-Lite port.
pub finished-lite : (plan : Plan) (past : Trace) (p : ℕ) → AreSteps plan past → is_finished (next_operation plan past p) plan.header past p ≡ true → is_ace plan.header p ≡ false
finished-lite plan past p s finished =
    elim (cases_Bool (is_ace plan.header p)) [
      | inr lite ↦ lite
      | inl ace ↦
          let ends = (and_parts (not (has_due plan.header past p)) (is_some_and (next_operation plan past p) (λ o. may_retire plan.header past p o Ok)) finished).1 in
          let bad : false ≡ true = sym (never-finished plan past p s ace) ∙ ends in cc
    ]
