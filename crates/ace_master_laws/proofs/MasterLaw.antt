-- A step of the master of an ACE port keeps a run legal, and what the port keeps between its steps.
use Rattle.std.proofs.Common.{◌≡◌, ℕ, Bool, true, false, not, ◌&&◌, ◌==◌, if◌then◌else◌, List, [], ◌∷◌, length, map, slice_get, Option, Some, None, inl, inr, refl, sym, ap, subst, ◌∙◌, arith, flat_map}
use Rattle.std.specs.List.{list_all, list_any}
use Rattle.std.specs.Option.{option_to_list}
use Rattle.std.proofs.lemmas.List.Folds.{list_any-append}
use Rattle.ace_event.specs.declared.event.Channel.TheVariants.{Read}
use Rattle.ace_event.specs.declared.event.Event.{Event}
use Rattle.ace_event.specs.declared.event.Event.TheVariants.{W}
use Rattle.ace_event.specs.declared.event.Outcome.TheVariants.{Ok}
use Rattle.ace_event.specs.declared.header.Header.{Header}
use Rattle.ace_model.specs.declared.plans.Op.{Op}
use Rattle.ace_model.specs.declared.transactions.Transaction.{Transaction}
use Rattle.ace_model.specs.Transactions.{is_ace}
use Rattle.ace_runs.specs.Bursts.{are_kept, onto}
use Rattle.ace_runs.specs.Segments.{segment}
use Rattle.ace_master_laws.specs.Chosen.{AreChosen}
use Rattle.ace_master_laws.proofs.GoesOn.Requests.{EachGood, request-good}
use Rattle.ace_runs.specs.Follows.{FollowsSoFar, owes_completion}
use Rattle.ace_master_laws.proofs.Progress.Come.{HasCome, orderly-come}
use Rattle.ace_model.specs.Accepted.{IsAccepted}
use Rattle.ace_runs.specs.Lean.{IsLean}
use Rattle.ace_engine.specs.Engines.{IsLegal}
use Rattle.ace_master_laws.specs.Orderly.{IsOrderly}
use Rattle.ace_master_laws.proofs.GoesOn.Ready.{IsReady}
use Rattle.ace_model.specs.Plans.{IsRight, Plan}
use Rattle.ace_master_laws.proofs.Answers.Answering.{KeepsOn, answers-keeps, sends-keeps}
use Rattle.ace_model.specs.Trace.{Trace, is_some_and}
use Rattle.ace_master_laws.proofs.Acknowledges.StepFour.{acknowledges-keeps}
use Rattle.ace_runs.proofs.NeverStuck.Phases.Acknowledged.{acknowledges-stay}
use Rattle.ace_runs.proofs.NeverStuck.Steps.Lists.{all-implied}
use Rattle.ace_runs.specs.Closing.{and_closing, closing_of, state_named}
use Rattle.std.proofs.lemmas.Bool.{and_parts, cases_Bool, or_cases, or_right}
use Rattle.ace_runs.proofs.NeverStuck.Phases.Answered.{answers-stay}
use Rattle.ace_runs.specs.Requests.{bursts_of, ends_or_asks, free_on, is_waiting, moves_of, request_of}
use Rattle.ace_runs.proofs.NeverStuck.Phases.CalmEvents.{calm-burst, is_calm}
use Rattle.ace_master_laws.proofs.Progress.Endings.{closing-well}
use Rattle.ace_master_laws.proofs.GoesOn.GoingOn.{completion-is, completion-keeps, ends-none, is-ready, completes}
use Rattle.ace_runs.specs.MasterSteps.{completion_bursts, goes_on, is_beat}
use Rattle.ace_master_laws.proofs.Progress.Ended.{ended-come}
use Rattle.ace_runs.proofs.NeverStuck.Steps.SameBursts.{equal-burst}
use Rattle.ace_runs.proofs.NeverStuck.Phases.Endings.{fresh-stays}
use Rattle.ace_runs.proofs.NeverStuck.Phases.GoneOn.{goes-on-stays}
use Rattle.ace_runs.proofs.NeverStuck.Phases.OneOfTwo.{has_two_acts}
use Rattle.ace_runs.specs.Steps.{is_step_by}
use Rattle.ace_master_laws.proofs.Progress.Wells.{legal-after}
use Rattle.ace_master_laws.proofs.Progress.Turns.{master-turn, turn-kept}
use Rattle.ace_runs.proofs.NeverStuck.Phases.Calm.{may_end}
use Rattle.ace_runs.specs.Retiring.{may_retire}
use Rattle.ace_runs.specs.Operations.{next_operation}
use Rattle.ace_runs.specs.SameEvents.{same_burst}
use Rattle.ace_master_laws.proofs.GoesOn.TwoActs.{two-good}

module _ (plan : Plan) (past : Trace) (p : ℕ) (right : IsRight plan) (a : IsAccepted plan.header past) (f : FollowsSoFar plan past) (l : IsLean plan past) (c : HasCome plan past p)
    (burst : List Event) (kept : are_kept plan.header past burst ≡ true) where
  abbrev h : Header
  h = plan.header

  module _ (o : Op) (next : next_operation plan past p ≡ Some o) (f_waits : is_waiting h past p o ≡ false) where
    asked-keeps : (r : IsReady plan past p o) → (bursts : List (List Event)) → EachGood plan past p o right a f l c r bursts
        → list_any (λ move. same_burst move burst) (map (and_closing h past p o) bursts) ≡ true → KeepsOn plan past p burst
    asked-keeps r [] good s = cc
    asked-keeps r (asked ∷ bursts) good s =
        elim (or_cases (same_burst (and_closing h past p o asked) burst) (list_any (λ move. same_burst move burst) (map (and_closing h past p o) bursts)) s) [
          | inl same ↦ good.0 burst kept same
          | inr later ↦ asked-keeps r bursts good.1 later
        ]

    all-good : (r : IsReady plan past p o) → EachGood plan past p o right a f l c r (bursts_of plan.ways h past p (request_of o (state_named h past p o)))
    all-good r =
        elim (cases_Bool (has_two_acts o)) [
          | inl two ↦ two-good plan past p o right a f l c r o refl two
          | inr one ↦ request-good plan past p o right a f l c r o refl one
        ]

    ends-keeps : same_burst (closing_of h past p o) burst ≡ true → KeepsOn plan past p burst
    ends-keeps same =
        record {
          well = closing-well plan past p o f next burst a same kept;
          come = elim (ended-come plan past p o burst same (ends-none plan past p o right c next f_waits)) [
            | inr done ↦ done
            | inl none ↦ subst (λ b. HasCome plan (onto b past) p) (sym none.1) c
          ];
        }

    ends-or-asks : (end : List Event) → closing_of h past p o ≡ end → list_any (λ move. same_burst move burst) (ends_or_asks plan.ways h past p o end) ≡ true → KeepsOn plan past p burst
    ends-or-asks [] is s =
        let r = is-ready plan past p o next f_waits is in
        asked-keeps r (bursts_of plan.ways h past p (request_of o (state_named h past p o))) (all-good r) s
    ends-or-asks (e ∷ end) is s =
        elim (or_cases (same_burst (e ∷ end) burst) false s) [
          | inl same ↦ ends-keeps (ap (λ v. same_burst v burst) is ∙ same)
          | inr none ↦ cc
        ]

  operation-keeps : (o : Op) → next_operation plan past p ≡ Some o → list_any (λ move. same_burst move burst) (moves_of plan.ways h past p o) ≡ true → KeepsOn plan past p burst
  operation-keeps o next s = by (is_waiting h past p o) refl s
    where
      by : (b : Bool) → is_waiting h past p o ≡ b → list_any (λ move. same_burst move burst) (if b then [] else ends_or_asks plan.ways h past p o (closing_of h past p o)) ≡ true → KeepsOn plan past p burst
      by true is s = cc
      by false is s = ends-or-asks o next is (closing_of h past p o) refl s

  completes-keeps : list_any (λ move. same_burst move burst) (completion_bursts h past p) ≡ true → KeepsOn plan past p burst
  completes-keeps s =
      let i = completion-is (is_ace h p && owes_completion past p) p (free_on h past p Read) burst s in
      let one : completes p i.0 ∷ [] ≡ burst = equal-burst (completes p i.0 ∷ []) burst i.1 refl in
      subst (KeepsOn plan past p) one (completion-keeps plan past p i.0 a f c (ap (are_kept h past) one ∙ kept))

  -- Going on.
  pub goes-on-keeps : goes_on plan.ways (next_operation plan past p) h past p burst ≡ true → KeepsOn plan past p burst
  goes-on-keeps s =
      let test = λ (move : List Event). same_burst move burst in
      let rest = flat_map (moves_of plan.ways h past p) (option_to_list (next_operation plan past p)) in
      elim (or_cases (list_any test (completion_bursts h past p)) (list_any test rest) (sym (list_any-append test (completion_bursts h past p) rest) ∙ s)) [
        | inl completes ↦ completes-keeps completes
        | inr goes ↦ by (next_operation plan past p) refl goes
      ]
    where
      by : (n : Option Op) → next_operation plan past p ≡ n → list_any (λ move. same_burst move burst) (flat_map (moves_of plan.ways h past p) (option_to_list n)) ≡ true → KeepsOn plan past p burst
      by None is goes = cc
      by (Some o) is goes =
          elim (or_cases (list_any (λ move. same_burst move burst) (moves_of plan.ways h past p o)) false (sym (list_any-append (λ move. same_burst move burst) (moves_of plan.ways h past p o) []) ∙ goes)) [
            | inl of ↦ operation-keeps o is of
            | inr none ↦ cc
          ]

-- ---- a step ------------------------------------------------------------------------------------------

beats-calm : (p : ℕ) (burst : List Event) → list_all (is_beat p) burst ≡ true → list_all (is_calm p) burst ≡ true
beats-calm p burst all = all-implied (is_beat p) (is_calm p) one burst all
  where
    one : (e : Event) → is_beat p e ≡ true → is_calm p e ≡ true
    one (W q strb last word) m = or_right (not (q == p)) true refl
    one e m = cc

-- A step of the master of an ACE port keeps the run legal, and what the port keeps.
pub orderly-step : (plan : Plan) (past : Trace) (p : ℕ) (burst : List Event) → is_ace plan.header p ≡ true → IsLegal plan past → IsOrderly plan past p
    → is_step_by (1 ∷ 2 ∷ 4 ∷ 14 ∷ []) plan past p burst ≡ true → AreChosen plan past burst → IsLegal plan (onto burst past) × IsOrderly plan (onto burst past) p
orderly-step plan past p burst ace legal o s chosen =
    let h = plan.header in
    let kept = turn-kept plan past p burst s in
    let c = orderly-come plan past p o in
    elim (master-turn plan past p burst s) [
      | inl g ↦ whole kept (answers-keeps plan past p ace legal.right legal.accepted legal.follows c burst kept g chosen) (answers-stay plan past p ace legal.accepted o.unended burst kept g)
      | inr (inl g) ↦
          whole kept (sends-keeps plan past p burst ace legal.accepted legal.follows kept g chosen c)
          (calm-burst plan burst past p ace legal.accepted kept (beats-calm p burst (and_parts (list_all (is_beat p) burst) (length burst == 4) g).0) o.unended)
      | inr (inr (inl g)) ↦
          whole kept (acknowledges-keeps plan past p ace legal.right legal.accepted legal.follows c o.unended burst kept g) (acknowledges-stay plan past p burst legal.accepted kept o.unended g)
      | inr (inr (inr g)) ↦
          whole kept (goes-on-keeps plan past p legal.right legal.accepted legal.follows legal.lean c burst kept g) (goes-on-stays plan past p burst legal.accepted kept o.unended g)
    ]
  where
    whole : are_kept plan.header past burst ≡ true → KeepsOn plan past p burst → may_end plan (onto burst past) p ≡ false → IsLegal plan (onto burst past) × IsOrderly plan (onto burst past) p
    whole kept k unended = (legal-after plan burst past legal kept k.well, record { unended = unended; brought = k.come.brought; under_way = k.come.under_way })

-- A port has come to nothing before the first event.
pub orderly-first : (plan : Plan) (p : ℕ) → IsOrderly plan [] p
orderly-first plan p =
    record {
      unended = first (next_operation plan [] p);
      brought = λ i x out b. cc;
      under_way = λ op next. record {
        asked = λ k x there. absurd (nothing-at k x there);
        settled = λ k x there out. absurd (nothing-at k x there);
        silent = inl refl;
        one_update = omega arith;
        one_owner = omega arith;
        room = λ k x there out takes. absurd (nothing-at k x there);
        apart = λ j k x y at_x at_y b u out. absurd (nothing-at j x at_x);
        absent = λ k x there out updates l used. absurd (nothing-at k x there);
      };
    }
  where
    nothing-at : (k : ℕ) (x : Transaction) → slice_get (segment [] p) k ≡ Some x → ⊥
    nothing-at k x there = cc

    first : (n : Option Op) → is_some_and n (λ o. may_retire plan.header [] p o Ok) ≡ false
    first None = refl
    first (Some o) = fresh-stays plan.header [] p o refl refl
