-- Where step 14 is enabled for a port, it has a burst for the port that breaks no rule: a DVM Complete that the port owes; or what ends its next
-- operation, or what that asks for and what ends it then. Each burst by which an operation goes on is such a one.
use Rattle.std.proofs.Common.{◌≡◌, ℕ, ◌≤◌, Bool, true, false, not, ◌&&◌, ◌||◌, ◌==◌, nat_le, nat_lt, if◌then◌else◌, List, [], ◌∷◌, ◌++◌, length, map, Option, Some, None, length-append, refl, sym, ap, ◌∙◌, inl, inr, leb-true, le-leb, arith}
use Rattle.std.specs.List.{flat_map, list_all, list_any}
use Rattle.std.specs.Option.{option_to_list}
use Rattle.std.proofs.lemmas.Bool.{and_parts, and_from, cases_Bool, eqb-true, or_left}
use Rattle.ace_event.specs.declared.event.Event.{Event}
use Rattle.ace_event.specs.declared.header.Header.{Header}
use Rattle.ace_model.specs.declared.plans.Op.{Op}
use Rattle.ace_model.specs.Plans.{IsRight, Plan, line_named}
use Rattle.ace_model.specs.Trace.{Trace, is_some_and}
use Rattle.ace_model.specs.Transactions.{has_outstanding_on}
use Rattle.ace_runs.specs.Bursts.{are_kept, is_kept, onto}
use Rattle.ace_runs.specs.Closing.{and_closing, closing_of, gives_access, state_named}
use Rattle.ace_runs.specs.Follows.{FollowsSoFar}
use Rattle.ace_runs.specs.Lean.{IsLean}
use Rattle.ace_runs.specs.MasterSteps.{completion_bursts, goes_on, may_go_on, moves}
use Rattle.ace_runs.specs.Operations.{next_operation}
use Rattle.ace_runs.specs.Requests.{awaits_update, bursts_of, ends_or_asks, is_waiting, moves_of, request_of}
use Rattle.ace_runs.specs.SameEvents.{same_burst}
use Rattle.ace_runs.specs.Segments.{acts_made}
use Rattle.ace_runs.specs.Steps.{AreSteps, is_enabled_by, is_sound, is_step_by}
use Rattle.ace_runs.proofs.Turns.{steps-accepted}
use Rattle.ace_runs.proofs.NeverStuck.Steps.SameBursts.{burst-self}
use Rattle.ace_runs.proofs.NeverStuck.Steps.Lists.{all-append, all-mapped}
use Rattle.ace_runs.proofs.NeverStuck.Barriers.BothAnswered.{halves-together}
use Rattle.ace_runs.proofs.NeverStuck.Messages.WholeMessages.{issues-whole}
use Rattle.ace_runs.proofs.NeverStuck.Operations.SegmentOf.{no-half}
use Rattle.ace_runs.proofs.NeverStuck.Operations.Fits.Asking.{IsAsking, IsSynced}
use Rattle.ace_runs.proofs.NeverStuck.Operations.Fits.Ends.{can-not-end, no-access}
use Rattle.ace_runs.proofs.NeverStuck.Operations.Fits.RequestsFit.{request-fits}
use Rattle.ace_runs.proofs.NeverStuck.Operations.Fetches.ReadsAhead.{fetches-as-asked}
use Rattle.ace_runs.proofs.NeverStuck.Operations.Kept.BurstsKept.{bursts-good, is_calm, is_good}
use Rattle.ace_runs.proofs.NeverStuck.Operations.Kept.CalmBursts.{calm-gives}
use Rattle.ace_runs.proofs.NeverStuck.Operations.Kept.CompletionsKept.{completions-sound}
use Rattle.ace_runs.proofs.NeverStuck.Operations.Kept.ClosingKept.{IsLineFree, an-access-of, closing-kept, closing-short, has_access, retiring-kept}
use Rattle.ace_runs.proofs.NeverStuck.Operations.Lines.Classes.{named-class}
use Rattle.ace_runs.proofs.NeverStuck.Operations.Lines.OfPlan.{IsPlanned, next-planned}

-- ---- a burst and what ends the operation then --------------------------------------------------------

kept-append : (h : Header) (xs ys : List Event) (past : Trace) → are_kept h past xs ≡ true → are_kept h (onto xs past) ys ≡ true → are_kept h past (xs ++ ys) ≡ true
kept-append h [] ys past a b = b
kept-append h (e ∷ xs) ys past a b =
    let parts = and_parts (is_kept h past e) (are_kept h (e ∷ past) xs) a in and_from _ _ parts.0 (kept-append h xs ys (e ∷ past) parts.1 b)

sound-of : (h : Header) (past : Trace) (burst : List Event) → 1 ≤ length burst → length burst ≤ 4 → are_kept h past burst ≡ true → is_sound h past burst ≡ true
sound-of h past burst some few kept = and_from _ _ (and_from _ _ (le-leb 1 (length burst) some) (le-leb (length burst) 16 (omega (arith, few)))) kept

module _ (h : Header) (past : Trace) (p : ℕ) (op : Op) (low : nat_lt p h.ports ≡ true) where
  -- what asks and what ends the operation then
  good-sound : (burst : List Event) → (has_access op ≡ true → gives_access op (state_named h past p op) ≡ false) → is_good h past burst ≡ true
      → is_sound h past (and_closing h past p op burst) ≡ true
  good-sound burst none good =
      let now = onto burst past in
      let p1 = and_parts ((nat_le 1 (length burst) && nat_le (length burst) 2) && are_kept h past burst) (list_all is_calm burst) good in
      let p2 = and_parts (nat_le 1 (length burst) && nat_le (length burst) 2) (are_kept h past burst) p1.0 in
      let p3 = and_parts (nat_le 1 (length burst)) (nat_le (length burst) 2) p2.0 in
      let ending = closing_of h now p op in
      let one = leb-true 1 (length burst) p3.0 in
      let two = leb-true (length burst) 2 p3.1 in
      let more = leb-true (length ending) 2 (closing-short h now p op) in
      let long = length-append burst ending in
      sound-of h past (burst ++ ending) (omega (arith, one, long)) (omega (arith, two, more, long))
      (kept-append h burst ending past p2.1 (retiring-kept h now p op low (λ some. calm-gives h burst past p op p1.1 (none some))))

-- ---- an operation that doesn't wait ------------------------------------------------------------------

or-none : (a b : Bool) → (a || b) ≡ false → (a ≡ false) × (b ≡ false)
or-none true b f = cc
or-none false b f = (refl, f)

-- It has made no act, and no transaction of the port on its line is outstanding.
record IsReady (h : Header) (past : Trace) (p : ℕ) (op : Op) : Type 0 where
  free : IsLineFree h past p op
  made : acts_made past p ≡ 0

ready : (h : Header) (past : Trace) (p : ℕ) (op : Op) → is_waiting h past p op ≡ false → IsReady h past p op
ready h past p op f =
    let outer = or-none (is_some_and (line_named op) (has_outstanding_on h past p) || awaits_update h past p) (not (acts_made past p == 0)) f in
    let inner = or-none (is_some_and (line_named op) (has_outstanding_on h past p)) (awaits_update h past p) outer.0 in
    record {
      free = λ a line. ap (λ o. is_some_and o (has_outstanding_on h past p)) (sym line) ∙ inner.0;
      made = eqb-true (acts_made past p) 0 (by (acts_made past p == 0) outer.1);
    }
  where
    by : (b : Bool) → not b ≡ false → b ≡ true
    by true n = refl
    by false n = cc

module _ (plan : Plan) (past : Trace) (p : ℕ) (op : Op) (right : IsRight plan) (steps : AreSteps plan past) (follows : FollowsSoFar plan past) (lean : IsLean plan past)
    (next : next_operation plan past p ≡ Some op) (synced : acts_made past p ≡ 0 → IsSynced past p op) where
  abbrev h : Header
  h = plan.header

  planned : IsPlanned plan p op
  planned = next-planned plan past p op right next

  asking : IsReady h past p op → closing_of h past p op ≡ [] → IsAsking plan past p op
  asking r none =
      record {
        accepted = steps-accepted plan past steps;
        planned = planned;
        alike = λ a line. named-class plan past p a op right lean planned line;
        whole = issues-whole plan past right steps p;
        as_asked = fetches-as-asked plan past p op right steps next;
        synced = synced r.made;
        free = r.free;
        made = r.made;
        stays = can-not-end h past p op none;
      }

  -- an operation that ends
  ends-sound : IsReady h past p op → (end : List Event) → closing_of h past p op ≡ end → 1 ≤ length end → is_sound h past end ≡ true
  ends-sound r end is some =
      let short = leb-true (length end) 2 (ap (λ (xs : List Event). nat_le (length xs) 2) (sym is) ∙ closing-short h past p op) in
      sound-of h past end some (omega (arith, short)) (ap (are_kept h past) (sym is) ∙ closing-kept plan past p op planned r.free r.made)

  -- an operation that asks
  asks-sound : IsReady h past p op → closing_of h past p op ≡ []
      → list_all (is_sound h past) (map (and_closing h past p op) (bursts_of plan.ways h past p (request_of op (state_named h past p op)))) ≡ true
  asks-sound r none =
      let q = asking r none in
      let stays = can-not-end h past p op none in
      all-mapped (is_good h past) (is_sound h past) (and_closing h past p op) (bursts_of plan.ways h past p (request_of op (state_named h past p op)))
      (λ burst good. good-sound h past p op planned.low burst (λ some. let e = an-access-of past p op some in no-access h past p op r.made stays e.0 e.1) good)
      (bursts-good h past p q.accepted (halves-together plan past steps) planned.low (no-half plan past p follows r.made) plan.ways (request_of op (state_named h past p op))
      (request-fits plan past p op q))

  ends-or-asks-sound : IsReady h past p op → (end : List Event) → closing_of h past p op ≡ end → list_all (is_sound h past) (ends_or_asks plan.ways h past p op end) ≡ true
  ends-or-asks-sound r [] is = asks-sound r is
  ends-or-asks-sound r (e ∷ end) is = and_from _ _ (ends-sound r (e ∷ end) is (omega arith)) refl

  -- Each burst by which the operation goes on is one to sixteen events, none of which breaks a rule.
  pub moves-sound : list_all (is_sound h past) (moves_of plan.ways h past p op) ≡ true
  moves-sound =
      elim (cases_Bool (is_waiting h past p op)) [
        | inl waits ↦ ap (λ b. list_all (is_sound h past) (if b then [] else ends_or_asks plan.ways h past p op (closing_of h past p op))) waits
        | inr not_now ↦
            ap (λ b. list_all (is_sound h past) (if b then [] else ends_or_asks plan.ways h past p op (closing_of h past p op))) not_now
            ∙ ends-or-asks-sound (ready h past p op not_now) (closing_of h past p op) refl
      ]

-- ---- step 14 -----------------------------------------------------------------------------------------

first-of : (bursts : List (List Event)) → not (length bursts == 0) ≡ true → (burst : List Event) × (rest : List (List Event)) × (bursts ≡ burst ∷ rest)
first-of [] some = cc
first-of (burst ∷ bursts) some = (burst, bursts, refl)

module _ (plan : Plan) (past : Trace) (p : ℕ) (right : IsRight plan) (steps : AreSteps plan past) (follows : FollowsSoFar plan past) (lean : IsLean plan past)
    (synced : (op : Op) → next_operation plan past p ≡ Some op → acts_made past p ≡ 0 → IsSynced past p op) where
  all-moves-sound : list_all (is_sound plan.header past) (moves plan.ways (next_operation plan past p) plan.header past p) ≡ true
  all-moves-sound =
      all-append (is_sound plan.header past) (completion_bursts plan.header past p) (flat_map (moves_of plan.ways plan.header past p) (option_to_list (next_operation plan past p)))
      (completions-sound plan.header past p) (by (next_operation plan past p) refl)
    where
      by : (o : Option Op) → next_operation plan past p ≡ o → list_all (is_sound plan.header past) (flat_map (moves_of plan.ways plan.header past p) (option_to_list o)) ≡ true
      by None is = refl
      by (Some op) is =
          all-append (is_sound plan.header past) (moves_of plan.ways plan.header past p op) [] (moves-sound plan past p op right steps follows lean is (synced op is)) refl

  -- Where step 14 is enabled for the port, it has a burst for the port.
  pub going-on-has-step : is_enabled_by (14 ∷ []) plan past p ≡ true → (burst : List Event) × (is_step_by (14 ∷ []) plan past p burst ≡ true)
  going-on-has-step enabled =
      let h = plan.header in
      let next = next_operation plan past p in
      let may : may_go_on plan.ways next h past p ≡ true = sym (or-false (may_go_on plan.ways next h past p)) ∙ enabled in
      let first = first-of (moves plan.ways next h past p) may in
      let burst = first.0 in
      let sound : is_sound h past burst ≡ true = (and_parts (is_sound h past burst) _ (ap (list_all (is_sound h past)) (sym first.2) ∙ all-moves-sound)).0 in
      let gives : goes_on plan.ways next h past p burst ≡ true = ap (list_any (λ move. same_burst move burst)) first.2 ∙ or_left (same_burst burst burst) _ (burst-self burst) in
      let both : (may_go_on plan.ways next h past p && goes_on plan.ways next h past p burst) ≡ true = and_from _ _ may gives in
      (burst, and_from _ _ sound (or_left (may_go_on plan.ways next h past p && goes_on plan.ways next h past p burst) _ both))
    where
      or-false : (b : Bool) → (b || false) ≡ b
      or-false true = refl
      or-false false = refl
