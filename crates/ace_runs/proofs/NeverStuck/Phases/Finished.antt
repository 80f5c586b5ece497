-- Where nothing is outstanding, an operation other than a Sync whose acts are made retires: a port that has made an act for it is enabled by step 4.
use Rattle.std.proofs.Common.{◌≡◌, ◌≢◌, ◌⊎◌, ℕ, ◌≤◌, ◌<◌, Bool, true, false, not, ◌&&◌, ◌==◌, List, [], ◌∷◌, length, Some, inl, inr, refl, sym, ap, ◌∙◌, arith}
use Rattle.std.specs.List.{list_all}
use Rattle.std.proofs.lemmas.Bool.{and_from, cases_Bool, eq-eqb, eqb-true, or_left, or_right}
use Rattle.ace_event.specs.declared.event.Outcome.TheVariants.{Ok}
use Rattle.ace_event.specs.declared.header.Header.{Header}
use Rattle.ace_model.specs.declared.plans.Op.{Op}
use Rattle.ace_model.specs.declared.plans.Op.TheVariants.{Pf, Wb, Wc, Ev, We, Wu, Wlu, Mb, Sb, Sync, Dvm2}
use Rattle.ace_model.specs.declared.transactions.Transaction.{Transaction}
use Rattle.ace_model.specs.Plans.{IsRight, Plan}
use Rattle.ace_model.specs.Trace.{Trace, implies, is_some_and}
use Rattle.ace_model.specs.Transactions.{is_outstanding, is_transaction, some_issued}
use Rattle.ace_runs.specs.Acts.{acts_of, is_act_transaction}
use Rattle.ace_runs.specs.Follows.{FollowsSoFar}
use Rattle.ace_runs.specs.MasterSteps.{has_due, is_finished, may_acknowledge}
use Rattle.ace_runs.specs.Operations.{next_operation}
use Rattle.ace_runs.specs.Retiring.{are_acts_done, is_met, may_retire}
use Rattle.ace_runs.specs.Segments.{acts_made, segment}
use Rattle.ace_runs.specs.Steps.{AreSteps, is_enabled_by}
use Rattle.ace_runs.proofs.NeverStuck.Barriers.Acts.{is_barrier_operation}
use Rattle.ace_runs.proofs.NeverStuck.Messages.OwedCompletions.{none-outstanding}
use Rattle.ace_runs.proofs.NeverStuck.Phases.BothHalves.{both-halves}
use Rattle.ace_runs.proofs.NeverStuck.Phases.BothParts.{both-parts}
use Rattle.ace_runs.proofs.NeverStuck.Phases.NextActs.{acts-within}
use Rattle.ace_runs.proofs.NeverStuck.Phases.OneOfTwo.{has_two_acts}
use Rattle.ace_runs.proofs.NeverStuck.Phases.Parts.{is_message_pair}

-- the operation is a Sync
abbrev pub asks_sync : Op → Bool
asks_sync (Sync word) = true
asks_sync _ = false

-- ---- all acts are made -------------------------------------------------------------------------------

at-most-one : (o : Op) → has_two_acts o ≡ false → length (acts_of o) ≤ 1
at-most-one Mb two = cc
at-most-one Sb two = cc
at-most-one (Dvm2 word second) two = cc
at-most-one o two = omega arith

two-acts : (o : Op) → has_two_acts o ≡ true → (length (acts_of o) ≡ 2) × ((is_barrier_operation o ≡ true) ⊎ (is_message_pair o ≡ true))
two-acts Mb two = (refl, inl refl)
two-acts Sb two = (refl, inl refl)
two-acts (Dvm2 word second) two = (refl, inr refl)
two-acts o two = cc

-- of two acts one isn't made alone
not-one : (made : ℕ) → (made == 1) ≡ false → 0 < made → made ≤ 2 → made ≡ 2
not-one made none some most =
    elim (cases_Bool (made == 2)) [
      | inl two ↦ eqb-true made 2 two
      | inr other ↦
          let first : made ≢ 1 = λ is. let t = eq-eqb made 1 is in let bad : false ≡ true = sym none ∙ t in cc in
          let second : made ≢ 2 = λ is. let t = eq-eqb made 2 is in let bad : false ≡ true = sym other ∙ t in cc in
          absurd (omega (arith, first, second, some, most))
    ]

-- In a run that follows a right plan a port that has made an act for its next operation has made all.
pub all-made : (plan : Plan) (past : Trace) (p : ℕ) (o : Op) → IsRight plan → AreSteps plan past → FollowsSoFar plan past → next_operation plan past p ≡ Some o → 0 < acts_made past p
    → acts_made past p ≡ length (acts_of o)
all-made plan past p o right s f next some =
    let low = acts-within plan past p f o next in
    elim (cases_Bool (has_two_acts o)) [
      | inr f ↦ let most = at-most-one o f in omega (arith, low, most, some)
      | inl t ↦
          let two = two-acts o t in
          let alone : (acts_made past p == 1) ≡ false =
          elim two.1 [
            | inl barrier ↦
                sym (ap (λ b. b && (acts_made past p == 1)) (ap (λ n. is_some_and n is_barrier_operation) next ∙ barrier)) ∙ both-halves plan past p s f
            | inr pair ↦
                sym (ap (λ b. b && (acts_made past p == 1)) (ap (λ n. is_some_and n is_message_pair) next ∙ pair)) ∙ both-parts plan past p right s f
          ] in
          let count = two.0 in
          not-one (acts_made past p) alone some (omega (arith, low, count)) ∙ sym two.0
    ]

-- ---- nothing is outstanding --------------------------------------------------------------------------

ended-each : (h : Header) (past : Trace) (xs : List Transaction) → some_issued past (is_outstanding h past) ≡ false
    → list_all (λ x. implies (is_act_transaction x) (not (is_outstanding h past x))) xs ≡ true
ended-each h past [] none = refl
ended-each h past (x ∷ xs) none =
    let ended : is_outstanding h past x ≡ false = ap (λ o. is_transaction o x) (none-outstanding h past x.port x.chan x.id none) in
    and_from _ _ (or_right (not (is_act_transaction x)) (not (is_outstanding h past x)) (ap not ended)) (ended-each h past xs none)

pub acts-done : (h : Header) (past : Trace) (p : ℕ) → some_issued past (is_outstanding h past) ≡ false → are_acts_done h past p ≡ true
acts-done h past p none = ended-each h past (segment past p) none

-- what holds beside the acts holds where they are done, of an operation with acts that is no Sync
pub met : (h : Header) (past : Trace) (p : ℕ) (o : Op) → are_acts_done h past p ≡ true → 0 < length (acts_of o) → asks_sync o ≡ false → is_met h past p o ≡ true
met h past p (Pf a k) done some other = absurd (omega (arith, some))
met h past p (Wb a) done some other = absurd (omega (arith, some))
met h past p (Wc a) done some other = absurd (omega (arith, some))
met h past p (Ev a) done some other = absurd (omega (arith, some))
met h past p (We a) done some other = absurd (omega (arith, some))
met h past p (Wu a strobe line) done some other = refl
met h past p (Wlu a line) done some other = refl
met h past p (Sync word) done some other = cc
met h past p o done some other = done

-- ---- step 4 ------------------------------------------------------------------------------------------

-- a port whose next operation may retire is enabled by step 4
pub retiring-enabled : (plan : Plan) (past : Trace) (p : ℕ) (o : Op) → next_operation plan past p ≡ Some o → may_retire plan.header past p o Ok ≡ true
    → is_enabled_by (4 ∷ []) plan past p ≡ true
retiring-enabled plan past p o next may =
    let h = plan.header in
    let op = next_operation plan past p in
    let ends : is_some_and (next_operation plan past p) (λ op. may_retire plan.header past p op Ok) ≡ true = ap (λ n. is_some_and n (λ op. may_retire plan.header past p op Ok)) next ∙ may in
    or_left (may_acknowledge op h past p) _ (by (has_due h past p) refl ends)
  where
    by : (due : Bool) → has_due plan.header past p ≡ due → is_some_and (next_operation plan past p) (λ op. may_retire plan.header past p op Ok) ≡ true
        → may_acknowledge (next_operation plan past p) plan.header past p ≡ true
    by true is ends = or_left (has_due plan.header past p) (is_finished (next_operation plan past p) plan.header past p) is
    by false is ends =
        or_right (has_due plan.header past p) (is_finished (next_operation plan past p) plan.header past p)
        (and_from (not (has_due plan.header past p)) _ (ap not is) ends)

-- In a run that follows a right plan and has nothing outstanding, an operation of which an act is made, and which is no Sync, may retire with `ok`.
pub acted-retires : (plan : Plan) (past : Trace) (p : ℕ) (o : Op) → IsRight plan → AreSteps plan past → FollowsSoFar plan past
    → some_issued past (is_outstanding plan.header past) ≡ false → next_operation plan past p ≡ Some o → 0 < acts_made past p → asks_sync o ≡ false
    → may_retire plan.header past p o Ok ≡ true
acted-retires plan past p o right s f none next some other =
    let all = all-made plan past p o right s f next some in
    and_from _ _ (eq-eqb (acts_made past p) (length (acts_of o)) all) (met plan.header past p o (acts-done plan.header past p none) (omega (arith, all, some)) other)

-- So its port is enabled by step 4.
pub acted-enabled : (plan : Plan) (past : Trace) (p : ℕ) (o : Op) → IsRight plan → AreSteps plan past → FollowsSoFar plan past
    → some_issued past (is_outstanding plan.header past) ≡ false → next_operation plan past p ≡ Some o → 0 < acts_made past p → asks_sync o ≡ false
    → is_enabled_by (4 ∷ []) plan past p ≡ true
acted-enabled plan past p o right s f none next some other = retiring-enabled plan past p o next (acted-retires plan past p o right s f none next some other)
