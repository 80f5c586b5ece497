-- In a legal trace what a port asks for by its next operation, which doesn't wait and can't end, and what ends the operation then, is a step.
use Rattle.std.proofs.Common.{◌≡◌, ℕ, zero, suc, ◌+◌, Bool, true, false, not, ◌&&◌, ◌||◌, ◌==◌, nat_le, if◌then◌else◌, List, [], ◌∷◌, ◌++◌, length, map, Option, Some, None, Contains, is_some, length-append, refl, sym, ap, subst, ◌∙◌, leb-true, le-leb, arith}
use Rattle.std.proofs.Math.Bool.{and-false}
use Rattle.std.specs.List.{flat_map, list_all, list_any}
use Rattle.std.specs.Option.{option_to_list}
use Rattle.std.proofs.lemmas.Bool.{and_parts, and_from, eqb-true, ne_eqb, or_left, or_right}
use Rattle.ace_event.specs.declared.event.Channel.TheVariants.{Read, Write}
use Rattle.ace_event.specs.declared.event.Event.{Event}
use Rattle.ace_event.specs.declared.header.Header.{Header}
use Rattle.ace_model.specs.declared.plans.Op.{Op}
use Rattle.ace_model.specs.Barriers.{barriers}
use Rattle.ace_model.specs.Messages.{first_waiting}
use Rattle.ace_model.specs.Plans.{Plan, line_named}
use Rattle.ace_model.specs.Trace.{Trace, is_some_and}
use Rattle.ace_model.specs.Transactions.{has_outstanding_on}
use Rattle.ace_model.proofs.General.Lists.{any-left, any-right}
use Rattle.ace_runs.specs.Bursts.{are_kept, is_kept, onto}
use Rattle.ace_runs.specs.Closing.{and_closing, closing_of, gives_access, state_named}
use Rattle.ace_runs.specs.MasterSteps.{completion_bursts, goes_on, may_go_on, moves}
use Rattle.ace_runs.specs.Operations.{next_operation}
use Rattle.ace_runs.specs.Requests.{awaits_update, bursts_of, ends_or_asks, is_waiting, moves_of, request_of}
use Rattle.ace_runs.specs.SameEvents.{same_burst}
use Rattle.ace_runs.specs.Segments.{acts_made}
use Rattle.ace_runs.specs.Steps.{is_sound, is_step_by}
use Rattle.ace_runs.proofs.NeverStuck.Barriers.Acts.{is_barrier_operation}
use Rattle.ace_runs.proofs.NeverStuck.Operations.SegmentOf.{no-half}
use Rattle.ace_runs.proofs.NeverStuck.Operations.Fits.Asking.{FetchesAsAsked, IsAsking}
use Rattle.ace_runs.proofs.NeverStuck.Operations.Fits.Ends.{can-not-end, no-access}
use Rattle.ace_runs.proofs.NeverStuck.Operations.Fits.Ordering.{synced-by}
use Rattle.ace_runs.proofs.NeverStuck.Operations.Fits.RequestsFit.{request-fits}
use Rattle.ace_runs.proofs.NeverStuck.Operations.Kept.BurstsKept.{is_calm, is_good}
use Rattle.ace_runs.proofs.NeverStuck.Operations.Kept.CalmBursts.{calm-gives}
use Rattle.ace_runs.proofs.NeverStuck.Operations.Kept.ClosingKept.{an-access-of, closing-short, has_access, retiring-kept}
use Rattle.ace_runs.proofs.NeverStuck.Operations.Kept.CompletionsKept.{completions-sound}
use Rattle.ace_runs.proofs.NeverStuck.Operations.Lines.Classes.{named-class}
use Rattle.ace_runs.proofs.NeverStuck.Operations.Lines.OfPlan.{IsPlanned, next-planned}
use Rattle.ace_runs.proofs.NeverStuck.Phases.BothHalves.{one_half, paced}
use Rattle.ace_runs.proofs.NeverStuck.Phases.BothParts.{one_part, waits-as-made}
use Rattle.ace_runs.proofs.NeverStuck.Phases.Parts.{is_message_pair}
use Rattle.ace_runs.proofs.NeverStuck.Phases.SyncsOfNext.{sync-of-next}
use Rattle.ace_runs.proofs.NeverStuck.Steps.SameBursts.{burst-self}
use Rattle.ace_engine.specs.Engines.{IsLegal}
use Rattle.ace_master.proofs.AskedBursts.GoodBursts.{all-good}

-- ---- lists -------------------------------------------------------------------------------------------

all-contained : {A : Type 0} → (test : A → Bool) (xs : List A) (x : A) → list_all test xs ≡ true → Contains xs x → test x ≡ true
all-contained test [] x all there = let low = there.1 in absurd (omega (arith, low))
all-contained test (y ∷ xs) x all (zero, low, is) = subst (λ v. test v ≡ true) is (and_parts (test y) (list_all test xs) all).0
all-contained test (y ∷ xs) x all (suc k, low, is) = all-contained test xs x (and_parts (test y) (list_all test xs) all).1 (k, omega (arith, low), is)

any-contained : {A : Type 0} → (test : A → Bool) (xs : List A) (x : A) → test x ≡ true → Contains xs x → list_any test xs ≡ true
any-contained test [] x passes there = let low = there.1 in absurd (omega (arith, low))
any-contained test (y ∷ xs) x passes (zero, low, is) = or_left (test y) (list_any test xs) (ap test is ∙ passes)
any-contained test (y ∷ xs) x passes (suc k, low, is) = or_right (test y) (list_any test xs) (any-contained test xs x passes (k, omega (arith, low), is))

any-mapped : {A B : Type 0} → (test : B → Bool) (f : A → B) (xs : List A) → list_any test (map f xs) ≡ list_any (λ x. test (f x)) xs
any-mapped test f [] = refl
any-mapped test f (x ∷ xs) = ap (λ b. test (f x) || b) (any-mapped test f xs)

some-there : {A : Type 0} → (test : A → Bool) (xs : List A) → list_any test xs ≡ true → not (length xs == 0) ≡ true
some-there test [] some = cc
some-there test (x ∷ xs) some = ap not (ne_eqb (length (x ∷ xs)) 0 (λ none. absurd (omega (arith, none))))

-- ---- steps -------------------------------------------------------------------------------------------

-- a sound burst by which the port can go on
going-on : (plan : Plan) (past : Trace) (p : ℕ) (burst : List Event) → is_sound plan.header past burst ≡ true
    → list_any (λ move. same_burst move burst) (moves plan.ways (next_operation plan past p) plan.header past p) ≡ true → is_step_by (14 ∷ []) plan past p burst ≡ true
going-on plan past p burst sound there =
    let next = next_operation plan past p in
    let may : may_go_on plan.ways next plan.header past p ≡ true = some-there (λ move. same_burst move burst) (moves plan.ways next plan.header past p) there in
    and_from _ _ sound (or_left (may_go_on plan.ways next plan.header past p && goes_on plan.ways next plan.header past p burst) _ (and_from _ _ may there))

-- The DVM Complete that a port owes is a step.
pub completion-steps : (plan : Plan) (past : Trace) (p : ℕ) (burst : List Event) → Contains (completion_bursts plan.header past p) burst → is_step_by (14 ∷ []) plan past p burst ≡ true
completion-steps plan past p burst there =
    going-on plan past p burst (all-contained (is_sound plan.header past) (completion_bursts plan.header past p) burst (completions-sound plan.header past p) there)
    (any-left (λ move. same_burst move burst) (completion_bursts plan.header past p) (flat_map (moves_of plan.ways plan.header past p) (option_to_list (next_operation plan past p)))
    (any-contained (λ move. same_burst move burst) (completion_bursts plan.header past p) burst (burst-self burst) there))

kept-append : (h : Header) (xs ys : List Event) (past : Trace) → are_kept h past xs ≡ true → are_kept h (onto xs past) ys ≡ true → are_kept h past (xs ++ ys) ≡ true
kept-append h [] ys past a b = b
kept-append h (e ∷ xs) ys past a b =
    let parts = and_parts (is_kept h past e) (are_kept h (e ∷ past) xs) a in and_from _ _ parts.0 (kept-append h xs ys (e ∷ past) parts.1 b)

or-none : (a b : Bool) → (a || b) ≡ false → (a ≡ false) × (b ≡ false)
or-none true b f = cc
or-none false b f = (refl, f)

not-none : (b : Bool) → not b ≡ false → b ≡ true
not-none true f = refl
not-none false f = cc

none-is : {A : Type 0} → (o : Option A) → is_some o ≡ false → o ≡ None
none-is None f = refl
none-is (Some x) f = cc

module _ (plan : Plan) (past : Trace) (p : ℕ) (op : Op) (legal : IsLegal plan past) (next : next_operation plan past p ≡ Some op) (goes : is_waiting plan.header past p op ≡ false)
    (unclosed : closing_of plan.header past p op ≡ []) where
  abbrev h : Header
  h = plan.header

  abbrev bursts : List (List Event)
  bursts = bursts_of plan.ways h past p (request_of op (state_named h past p op))

  moves-are : moves_of plan.ways h past p op ≡ map (and_closing h past p op) bursts
  moves-are =
      ap (λ b. if b then [] else ends_or_asks plan.ways h past p op (closing_of h past p op)) goes ∙ ap (ends_or_asks plan.ways h past p op) unclosed

  -- where there is no burst it can't go on
  pub none-asked : bursts ≡ [] → moves_of plan.ways h past p op ≡ []
  none-asked none = moves-are ∙ ap (map (and_closing h past p op)) none

  ready : (is_some_and (line_named op) (has_outstanding_on h past p) ≡ false) × (acts_made past p ≡ 0)
  ready =
      let outer = or-none (is_some_and (line_named op) (has_outstanding_on h past p) || awaits_update h past p) (not (acts_made past p == 0)) goes in
      let inner = or-none (is_some_and (line_named op) (has_outstanding_on h past p)) (awaits_update h past p) outer.0 in
      (inner.0, eqb-true (acts_made past p) 0 (not-none (acts_made past p == 0) outer.1))

  made : acts_made past p ≡ 0
  made = ready.1

  planned : IsPlanned plan p op
  planned = next-planned plan past p op legal.right next

  many : length (barriers past p Read) ≡ length (barriers past p Write)
  many =
      let none : one_half plan past p ≡ false =
      ap (λ n. is_some_and (next_operation plan past p) is_barrier_operation && (n == 1)) made ∙ and-false (is_some_and (next_operation plan past p) is_barrier_operation) in
      let same = paced plan past p legal.follows ∙ ap (λ v. length (barriers past p Write) + (if v then 1 else 0)) none in
      omega (arith, same)

  whole : first_waiting past p ≡ None
  whole =
      let none : one_part plan past p ≡ false =
      ap (λ n. is_some_and (next_operation plan past p) is_message_pair && (n == 1)) made ∙ and-false (is_some_and (next_operation plan past p) is_message_pair) in
      none-is (first_waiting past p) (waits-as-made plan past p legal.right legal.follows ∙ none)

  module _ (as_asked : FetchesAsAsked past p op) where
    asking : IsAsking plan past p op
    asking = record {
      accepted = legal.accepted;
      planned = planned;
      alike = λ a line. named-class plan past p a op legal.right legal.lean planned line;
      whole = whole;
      as_asked = as_asked;
      synced = synced-by past p op (λ some later. (sync-of-next plan past p legal.right legal.accepted legal.follows some later).made) made;
      free = λ a line. ap (λ o. is_some_and o (has_outstanding_on h past p)) (sym line) ∙ ready.0;
      made = made;
      stays = can-not-end h past p op unclosed;
    }

    good : list_all (is_good h past) bursts ≡ true
    good =
        all-good h past p legal.accepted many planned.low (no-half plan past p legal.follows made) plan.ways (request_of op (state_named h past p op)) (request-fits plan past p op asking)

    no-gain : has_access op ≡ true → gives_access op (state_named h past p op) ≡ false
    no-gain some = let e = an-access-of past p op some in no-access h past p op made asking.stays e.0 e.1

    module _ (burst : List Event) (there : Contains bursts burst) where
      sound : is_sound h past (and_closing h past p op burst) ≡ true
      sound =
          let p1 = and_parts ((nat_le 1 (length burst) && nat_le (length burst) 2) && are_kept h past burst) (list_all is_calm burst) (all-contained (is_good h past) bursts burst good there) in
          let p2 = and_parts (nat_le 1 (length burst) && nat_le (length burst) 2) (are_kept h past burst) p1.0 in
          let p3 = and_parts (nat_le 1 (length burst)) (nat_le (length burst) 2) p2.0 in
          let ending = closing_of h (onto burst past) p op in
          let one = leb-true 1 (length burst) p3.0 in
          let two = leb-true (length burst) 2 p3.1 in
          let more = leb-true (length ending) 2 (closing-short h (onto burst past) p op) in
          let long = length-append burst ending in
          and_from _ _ (and_from _ _ (le-leb 1 (length (burst ++ ending)) (omega (arith, one, long))) (le-leb (length (burst ++ ending)) 16 (omega (arith, two, more, long))))
          (kept-append h burst ending past p2.1 (retiring-kept h (onto burst past) p op planned.low (λ some. calm-gives h burst past p op p1.1 (no-gain some))))

      -- it is a step of the port
      pub asked-steps : is_step_by (14 ∷ []) plan past p (and_closing h past p op burst) ≡ true
      asked-steps =
          let closed = and_closing h past p op burst in
          let test : List Event → Bool = λ move. same_burst move closed in
          let mapped : list_any test (map (and_closing h past p op) bursts) ≡ true =
          any-mapped test (and_closing h past p op) bursts ∙ any-contained (λ move. test (and_closing h past p op move)) bursts burst (burst-self closed) there in
          let own : list_any test (moves_of plan.ways h past p op) ≡ true = ap (list_any test) moves-are ∙ mapped in
          let of_next : list_any test (flat_map (moves_of plan.ways h past p) (option_to_list (next_operation plan past p))) ≡ true =
          ap (λ o. list_any test (flat_map (moves_of plan.ways h past p) (option_to_list o))) next ∙ any-left test (moves_of plan.ways h past p op) [] own in
          going-on plan past p closed sound (any-right test (completion_bursts h past p) (flat_map (moves_of plan.ways h past p) (option_to_list (next_operation plan past p))) of_next)
