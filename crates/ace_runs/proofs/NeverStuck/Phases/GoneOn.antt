-- After step 14 the next operation of its port can't retire with `ok` where it couldn't before: what the operation asks comes with what ends the
-- operation, if that can end then; and a DVM Complete is no act.
use Rattle.std.proofs.Common.{◌≡◌, ℕ, ◌+◌, Bool, true, false, ◌&&◌, ◌==◌, if◌then◌else◌, List, [], ◌∷◌, map, Option, Some, None, inl, inr, refl, sym, ap, subst, ◌∙◌}
use Rattle.std.proofs.Math.Bool.{and-false}
use Rattle.std.specs.List.{list_all, list_any, flat_map}
use Rattle.std.specs.Option.{option_to_list}
use Rattle.std.proofs.lemmas.Bool.{and_parts, or_cases}
use Rattle.std.proofs.lemmas.List.Folds.{list_any-append}
use Rattle.ace_codes.specs.Reads.{ar_code, ar_kind_of}
use Rattle.ace_codes.specs.declared.kind.ArKind.TheVariants as read
use Rattle.ace_event.specs.declared.event.Channel.TheVariants.{Read}
use Rattle.ace_event.specs.declared.event.Event.{Event}
use Rattle.ace_event.specs.declared.event.Event.TheVariants.{Ar}
use Rattle.ace_model.specs.declared.plans.Op.{Op}
use Rattle.ace_model.specs.Accepted.{IsAccepted}
use Rattle.ace_model.specs.Plans.{Plan}
use Rattle.ace_model.specs.Trace.{Trace, more}
use Rattle.ace_model.specs.Transactions.{is_ace}
use Rattle.ace_model.proofs.Trace.Outstanding.{read_issued}
use Rattle.ace_runs.specs.Bursts.{are_kept, is_kept, onto}
use Rattle.ace_runs.specs.Closing.{and_closing, closing_of, state_named}
use Rattle.ace_runs.specs.Follows.{owes_completion}
use Rattle.ace_runs.specs.MasterSteps.{completion_bursts, goes_on}
use Rattle.ace_runs.specs.Operations.{next_operation}
use Rattle.ace_runs.specs.Requests.{bursts_of, ends_or_asks, free_on, is_waiting, moves_of, request_of}
use Rattle.ace_runs.specs.SameEvents.{same_burst}
use Rattle.ace_runs.specs.Segments.{acts_made, segment}
use Rattle.ace_runs.proofs.Accepting.{kept-breaks-none}
use Rattle.ace_runs.proofs.NeverStuck.Steps.SameBursts.{equal-burst}
use Rattle.ace_runs.proofs.NeverStuck.Phases.Calm.{IsCalm, calm-keeps, may_end}
use Rattle.ace_runs.proofs.NeverStuck.Phases.CalmEvents.{outs-stay}
use Rattle.ace_runs.proofs.NeverStuck.Phases.Endings.{lineless-closed}
use Rattle.ace_runs.proofs.NeverStuck.Phases.OwnEvents.{are_asking, asking-lineless, requests-asking}

-- ---- a DVM Complete ----------------------------------------------------------------------------------

-- the AR of a DVM Complete
abbrev completes_with : ℕ → ℕ → Event
completes_with p i = Ar p i 0 (ar_code read.DvmComplete) 1 0 false

completion-calm : (plan : Plan) (past : Trace) (p i : ℕ) → IsAccepted plan.header (completes_with p i ∷ past) → IsCalm plan past p (completes_with p i)
unfolding ar_kind_of
completion-calm plan past p i a =
    let x = read_issued past p i 0 (ar_code read.DvmComplete) 1 0 false in
    record {
      next = refl;
      made = ap (λ b. if b then acts_made past p + 1 else acts_made past p) (and-false (p == p));
      same = ap (λ b. more (segment past p) (if b then Some x else None)) (and-false (p == p));
      outs = outs-stay plan.header past p (completes_with p i) a (λ k y there. refl);
      told = λ m. m;
    }

completion-is : (b : Bool) (p : ℕ) (o : Option ℕ) (burst : List Event)
    → list_any (λ move. same_burst move burst) (if b then map (λ i. completes_with p i ∷ []) (option_to_list o) else []) ≡ true → (i : ℕ) × (same_burst (completes_with p i ∷ []) burst ≡ true)
completion-is true p (Some i) burst s =
    elim (or_cases (same_burst (completes_with p i ∷ []) burst) false s) [
      | inl same ↦ (i, same)
      | inr none ↦ cc
    ]
completion-is true p None burst s = cc
completion-is false p o burst s = cc

completion-stays : (plan : Plan) (past : Trace) (p : ℕ) (burst : List Event) → IsAccepted plan.header past → are_kept plan.header past burst ≡ true → may_end plan past p ≡ false
    → list_any (λ move. same_burst move burst) (completion_bursts plan.header past p) ≡ true → may_end plan (onto burst past) p ≡ false
completion-stays plan past p burst a kept before s =
    let h = plan.header in
    let c = completion-is (is_ace h p && owes_completion past p) p (free_on h past p Read) burst s in
    let one : completes_with p c.0 ∷ [] ≡ burst = equal-burst (completes_with p c.0 ∷ []) burst c.1 refl in
    let k : are_kept h past (completes_with p c.0 ∷ []) ≡ true = subst (λ l. are_kept h past l ≡ true) (sym one) kept in
    let now : IsAccepted h (completes_with p c.0 ∷ past) = (a, kept-breaks-none h past (completes_with p c.0) (and_parts (is_kept h past (completes_with p c.0)) true k).0) in
    subst (λ l. may_end plan (onto l past) p ≡ false) one (calm-keeps plan past p (completes_with p c.0) (completion-calm plan past p c.0 now) before)

-- ---- the operation -----------------------------------------------------------------------------------

module _ (plan : Plan) (past : Trace) (p : ℕ) (o : Op) (next : next_operation plan past p ≡ Some o) (burst : List Event) where
  asked-stays : (bursts : List (List Event)) → list_all (are_asking p) bursts ≡ true → list_any (λ move. same_burst move burst) (map (and_closing plan.header past p o) bursts) ≡ true
      → may_end plan (onto burst past) p ≡ false
  asked-stays [] asks s = cc
  asked-stays (asked ∷ bursts) asks s =
      let of = and_parts (are_asking p asked) (list_all (are_asking p) bursts) asks in
      elim (or_cases (same_burst (and_closing plan.header past p o asked) burst) _ s) [
        | inl same ↦ lineless-closed plan past p o asked burst next (asking-lineless p asked of.0) same
        | inr later ↦ asked-stays bursts of.1 later
      ]

  ends-or-asks-stays : (end : List Event) → closing_of plan.header past p o ≡ end → list_any (λ move. same_burst move burst) (ends_or_asks plan.ways plan.header past p o end) ≡ true
      → may_end plan (onto burst past) p ≡ false
  ends-or-asks-stays [] is s =
      let request = request_of o (state_named plan.header past p o) in
      asked-stays (bursts_of plan.ways plan.header past p request) (requests-asking plan.header past p request plan.ways) s
  ends-or-asks-stays (e ∷ end) is s =
      elim (or_cases (same_burst (e ∷ end) burst) false s) [
        | inl same ↦ lineless-closed plan past p o [] burst next refl (ap (λ l. same_burst l burst) is ∙ same)
        | inr none ↦ cc
      ]

  operation-stays : list_any (λ move. same_burst move burst) (moves_of plan.ways plan.header past p o) ≡ true → may_end plan (onto burst past) p ≡ false
  operation-stays s = by (is_waiting plan.header past p o) s
    where
      by : (b : Bool) → list_any (λ move. same_burst move burst) (if b then [] else ends_or_asks plan.ways plan.header past p o (closing_of plan.header past p o)) ≡ true
          → may_end plan (onto burst past) p ≡ false
      by true s = cc
      by false s = ends-or-asks-stays (closing_of plan.header past p o) refl s

-- After step 14 the next operation can't retire with `ok` where it couldn't before.
pub goes-on-stays : (plan : Plan) (past : Trace) (p : ℕ) (burst : List Event) → IsAccepted plan.header past → are_kept plan.header past burst ≡ true → may_end plan past p ≡ false
    → goes_on plan.ways (next_operation plan past p) plan.header past p burst ≡ true → may_end plan (onto burst past) p ≡ false
goes-on-stays plan past p burst a kept before s =
    let h = plan.header in
    let test = λ (move : List Event). same_burst move burst in
    let rest = flat_map (moves_of plan.ways h past p) (option_to_list (next_operation plan past p)) in
    elim (or_cases (list_any test (completion_bursts h past p)) (list_any test rest) (sym (list_any-append test (completion_bursts h past p) rest) ∙ s)) [
      | inl completes ↦ completion-stays plan past p burst a kept before completes
      | inr goes ↦ by (next_operation plan past p) refl goes
    ]
  where
    by : (n : Option Op) → next_operation plan past p ≡ n → list_any (λ move. same_burst move burst) (flat_map (moves_of plan.ways plan.header past p) (option_to_list n)) ≡ true
        → may_end plan (onto burst past) p ≡ false
    by None is goes = cc
    by (Some o) is goes =
        let moves = moves_of plan.ways plan.header past p o in
        elim (or_cases (list_any (λ move. same_burst move burst) moves) false (sym (list_any-append (λ move. same_burst move burst) moves []) ∙ goes)) [
          | inl of ↦ operation-stays plan past p o is burst of
          | inr none ↦ cc
        ]
