-- A run that isn't done, though no AC is unanswered, nothing is outstanding and no DVM Complete is owed, has an operation left: some port of the header
-- has a next operation, and is enabled by step 4, 13 or 14.
use Rattle.std.proofs.Common.{◌≡◌, ℕ, ◌<◌, Bool, true, false, not, ◌&&◌, nat_le, List, [], ◌∷◌, length, Some, None, is_none, slice_get, inl, inr, refl, sym, ap, ◌∙◌}
use Rattle.std.specs.List.{list_all, list_any}
use Rattle.std.proofs.lemmas.Bool.{le-leb}
use Rattle.std.proofs.lemmas.Option.{slice_get_cases}
use Rattle.ace_model.specs.declared.plans.Op.{Op}
use Rattle.ace_model.specs.Grants.{ports_below}
use Rattle.ace_model.specs.OrderRules.{retired}
use Rattle.ace_model.specs.Plans.{IsRight, Plan}
use Rattle.ace_model.specs.Snoops.{answered}
use Rattle.ace_model.specs.Trace.{Trace}
use Rattle.ace_model.specs.Transactions.{is_outstanding, some_issued}
use Rattle.ace_model.proofs.General.Ports.{none_at}
use Rattle.ace_runs.specs.Follows.{FollowsSoFar, is_done, is_port_at_end, owes_completion}
use Rattle.ace_runs.specs.Operations.{next_operation, operations_of}
use Rattle.ace_runs.specs.Steps.{AreSteps, is_enabled_by}
use Rattle.ace_runs.proofs.NeverStuck.Messages.SyncsComplete.{sync-completes}
use Rattle.ace_runs.proofs.NeverStuck.Operations.OperationsGoOn.{operation-goes-on}
use Rattle.ace_runs.proofs.NeverStuck.Phases.OperationsMove.{operation-moves}
use Rattle.ace_runs.proofs.NeverStuck.Transactions.SnoopsMove.{failing-port}

-- ---- an operation is left ----------------------------------------------------------------------------

some-left : (xs : List Op) (n : ℕ) → nat_le (length xs) n ≡ false → (o : Op) × (slice_get xs n ≡ Some o)
some-left xs n more =
    elim (slice_get_cases xs n).1 [
      | inl there ↦ (there.0, there.2)
      | inr out ↦ let bad : false ≡ true = sym more ∙ le-leb (length xs) n out.0 in cc
    ]

-- a port at which nothing but operations can be left, and which isn't at its end, has a next operation
port-left : (plan : Plan) (past : Trace) (p : ℕ) → answered past p ≡ None → owes_completion past p ≡ false → is_port_at_end plan past p ≡ false
    → (o : Op) × (next_operation plan past p ≡ Some o)
port-left plan past p answers paid left = some-left (operations_of plan p) (retired past p) (of (nat_le (length (operations_of plan p)) (retired past p)) few)
  where
    few : (nat_le (length (operations_of plan p)) (retired past p) && true && true) ≡ false
    few =
        sym (ap (λ b. nat_le (length (operations_of plan p)) (retired past p) && b && not (owes_completion past p)) (ap is_none answers)
        ∙ ap (λ b. nat_le (length (operations_of plan p)) (retired past p) && true && not b) paid)
        ∙ left

    of : (b : Bool) → (b && true && true) ≡ false → b ≡ false
    of true f = cc
    of false f = refl

-- Some port of the header has a next operation.
abbrev pub HasOperation : Plan → Trace → Type 0
HasOperation plan past = (p : ℕ) × (p < plan.header.ports) × (o : Op) × (next_operation plan past p ≡ Some o)

module _ (plan : Plan) (past : Trace) (answers : (q : ℕ) → q < plan.header.ports → answered past q ≡ None)
    (none : some_issued past (is_outstanding plan.header past) ≡ false) (none_owed : list_any (owes_completion past) (ports_below plan.header.ports) ≡ false) where
  -- where the run isn't done
  pub operation-left : is_done plan past ≡ false → HasOperation plan past
  operation-left undone =
      let h = plan.header in
      let some : list_all (is_port_at_end plan past) (ports_below h.ports) ≡ false =
      of (list_all (is_port_at_end plan past) (ports_below h.ports)) (sym (ap (λ b. list_all (is_port_at_end plan past) (ports_below h.ports) && not b) none) ∙ undone) in
      let p = failing-port h.ports (is_port_at_end plan past) some in
      let o = port-left plan past p.0 (answers p.0 p.1) (none_at h.ports (owes_completion past) p.0 none_owed p.1) p.2 in
      (p.0, p.1, o.0, o.1)
    where
      of : (b : Bool) → (b && true) ≡ false → b ≡ false
      of true f = cc
      of false f = refl

  -- ---- the law ---------------------------------------------------------------------------------------

  -- In a run that follows a right plan that port is enabled by step 4, 13 or 14.
  pub some-operation-moves : IsRight plan → AreSteps plan past → FollowsSoFar plan past → is_done plan past ≡ false
      → (p : ℕ) × (p < plan.header.ports) × (is_enabled_by (4 ∷ 13 ∷ 14 ∷ []) plan past p ≡ true)
  some-operation-moves right s f undone =
      let p = operation-left undone in
      let paid : (q : ℕ) → q < plan.header.ports → owes_completion past q ≡ false = λ q low. none_at plan.header.ports (owes_completion past) q none_owed low in (
        p.0,
        p.1,
        operation-moves plan past p.0 right s f none (answers p.0 p.1) (λ x last done untold. sync-completes plan past p.0 x s paid last done untold) p.2 p.3
            (operation-goes-on plan past p.0 p.2 right.some_way none p.3),
      )
