-- The bursts of step 14: beside barriers and lines; for an operation that is no barrier; or the two halves of a barrier.
use Rattle.std.proofs.Common.{◌≡◌, ◌⊎◌, ℕ, Bool, true, false, not, ◌&&◌, if◌then◌else◌, List, [], ◌∷◌, ◌++◌, map, Option, Some, None, inl, inr, refl, sym, ap, ◌∙◌}
use Rattle.std.specs.List.{list_all, list_any, flat_map}
use Rattle.std.specs.Option.{option_to_list}
use Rattle.std.proofs.lemmas.Bool.{or_cases, or_left, or_right}
use Rattle.ace_codes.specs.declared.kind.ArKind.TheVariants as read
use Rattle.ace_codes.specs.Places.{is_barrier}
use Rattle.ace_codes.specs.Reads.{ar_code, ar_kind_of}
use Rattle.ace_event.specs.declared.event.Channel.TheVariants.{Read}
use Rattle.ace_event.specs.declared.event.Event.{Event}
use Rattle.ace_event.specs.declared.event.Event.TheVariants.{Ar}
use Rattle.ace_event.specs.declared.header.Header.{Header}
use Rattle.ace_model.specs.declared.plans.Op.{Op}
use Rattle.ace_model.specs.declared.plans.Op.TheVariants as op
use Rattle.ace_model.specs.Trace.{Trace, is_some_and}
use Rattle.ace_model.specs.Transactions.{is_ace}
use Rattle.ace_runs.specs.Acts.{memory_bar, synchronisation_bar}
use Rattle.ace_runs.specs.Bursts.{onto}
use Rattle.ace_runs.specs.Closing.{and_closing, closing_of, state_named}
use Rattle.ace_runs.specs.Follows.{owes_completion}
use Rattle.ace_runs.specs.MasterSteps.{completion_bursts, goes_on}
use Rattle.ace_runs.specs.Requests.{barrier_bursts, barrier_halves, bursts_of, ends_or_asks, free_on, free_on_both, is_waiting, moves_of, request_of, with_identifier}
use Rattle.ace_runs.specs.SameEvents.{same_burst}
use Rattle.ace_runs.proofs.NeverStuck.Steps.Asking.{completions-all}
use Rattle.ace_runs.proofs.NeverStuck.Steps.SameBursts.{all-as, any-all}
use Rattle.ace_runs.proofs.NeverStuck.Steps.SameEvents.{TellsSame, tells-same}
use Rattle.ace_runs.proofs.NeverStuck.Steps.Lists.{all-if, all-map}
use Rattle.ace_runs.proofs.NeverStuck.Barriers.Acts.{is_barrier_operation}
use Rattle.ace_runs.proofs.NeverStuck.Barriers.Asks.{all-no-line, all-ordinary, moves-ordinary, ordinary-asks}
use Rattle.ace_runs.proofs.NeverStuck.Barriers.Quiet.{closing-quiet, is_ordinary, is_quiet, issues_no_line, same-quiet}

-- the two halves of a barrier of the port, and events that issue nothing
pub record AsksBarrier (p : ℕ) (burst : List Event) : Type 0 where
  pub bar : ℕ
  pub is : is_barrier bar ≡ true
  pub id : ℕ
  pub rest : List Event
  pub quiet : list_all is_quiet rest ≡ true
  pub same : same_burst (barrier_halves p bar id ++ rest) burst ≡ true

-- nothing but transactions of the port that are neither barriers nor line transactions
abbrev pub IsBeside : ℕ → List Event → Type 0
IsBeside p burst = (list_all (is_ordinary p) burst ≡ true) × (list_all issues_no_line burst ≡ true)

-- transactions of the port that are no barriers, for an operation that is none
abbrev pub IsForOperation : Option Op → ℕ → List Event → Type 0
IsForOperation next p burst = (is_some_and next (λ o. not (is_barrier_operation o)) ≡ true) × (list_all (is_ordinary p) burst ≡ true)

-- ---- the same events ---------------------------------------------------------------------------------

same-ordinary : (p : ℕ) → TellsSame (is_ordinary p)
same-ordinary p = tells-same (is_ordinary p) (λ p c i line. refl) (λ p a s x line. refl) (λ a line. refl)

pub same-no-line : TellsSame issues_no_line
same-no-line = tells-same issues_no_line (λ p c i line. refl) (λ p a s x line. refl) (λ a line. refl)

-- ---- lists of bursts ---------------------------------------------------------------------------------

any-append : {A : Type 0} → (test : A → Bool) (xs ys : List A) → list_any test (xs ++ ys) ≡ true → (list_any test xs ≡ true) ⊎ (list_any test ys ≡ true)
any-append test [] ys s = inr s
any-append test (x ∷ xs) ys s =
    elim (or_cases (test x) (list_any test (xs ++ ys)) s) [
      | inl now ↦ inl (or_left (test x) _ now)
      | inr later ↦ elim (any-append test xs ys later) [ inl first ↦ inl (or_right (test x) _ first) | inr second ↦ inr second ]
    ]

-- ---- a DVM Complete ----------------------------------------------------------------------------------

completion-no-line : (p i : ℕ) → list_all issues_no_line (Ar p i 0 (ar_code read.DvmComplete) 1 0 false ∷ []) ≡ true
unfolding ar_kind_of
completion-no-line p i = refl

completion-beside : (h : Header) (past : Trace) (p : ℕ) (burst : List Event) → list_any (λ move. same_burst move burst) (completion_bursts h past p) ≡ true → IsBeside p burst
completion-beside h past p burst s = (
  any-all (is_ordinary p) (same-ordinary p) burst (completion_bursts h past p) s (completions-all p (is_ordinary p) (ordinary-asks p) h past),
  any-all issues_no_line same-no-line burst (completion_bursts h past p) s
      (all-if (list_all issues_no_line) (is_ace h p && owes_completion past p) _ [] (all-map (list_all issues_no_line) _ (option_to_list (free_on h past p Read)) (completion-no-line p)) refl),
)

-- ---- the next operation ------------------------------------------------------------------------------

quiet-beside : (p : ℕ) (burst : List Event) → list_all is_quiet burst ≡ true → IsBeside p burst
quiet-beside p burst m = (all-ordinary p burst m, all-no-line burst m)

halves-asked : (h : Header) (past : Trace) (p bar : ℕ) (o : Op) (burst : List Event) → is_barrier bar ≡ true
    → list_any (λ move. same_burst move burst) (map (and_closing h past p o) (barrier_bursts h past p bar)) ≡ true → AsksBarrier p burst
halves-asked h past p bar o burst is s = of (free_on_both h past p) s
  where
    of : (i : Option ℕ) → list_any (λ move. same_burst move burst) (map (and_closing h past p o) (with_identifier i (barrier_halves p bar))) ≡ true → AsksBarrier p burst
    of None s = cc
    of (Some i) s =
        elim (or_cases (same_burst (and_closing h past p o (barrier_halves p bar i)) burst) false s) [
          | inl same ↦ record {
            bar = bar;
            is = is;
            id = i;
            rest = closing_of h (onto (barrier_halves p bar i) past) p o;
            quiet = closing-quiet h (onto (barrier_halves p bar i) past) p o;
            same = same;
          }
          | inr none ↦ cc
        ]

ends-or-asks-barrier : (ways : ℕ) (h : Header) (past : Trace) (p bar : ℕ) (o : Op) (end burst : List Event) → is_barrier bar ≡ true
    → bursts_of ways h past p (request_of o (state_named h past p o)) ≡ barrier_bursts h past p bar → list_all is_quiet end ≡ true
    → list_any (λ move. same_burst move burst) (ends_or_asks ways h past p o end) ≡ true → IsBeside p burst ⊎ AsksBarrier p burst
ends-or-asks-barrier ways h past p bar o [] burst is asks m s =
    inr (halves-asked h past p bar o burst is (sym (ap (λ bs. list_any (λ move. same_burst move burst) (map (and_closing h past p o) bs)) asks) ∙ s))
ends-or-asks-barrier ways h past p bar o (e ∷ end) burst is asks m s =
    elim (or_cases (same_burst (e ∷ end) burst) false s) [
      | inl same ↦ inl (quiet-beside p burst (all-as is_quiet same-quiet (e ∷ end) burst same m))
      | inr none ↦ cc
    ]

none-of-if : (test : List Event → Bool) (b : Bool) (bursts : List (List Event)) → list_any test (if b then [] else bursts) ≡ true → list_any test bursts ≡ true
none-of-if test true bursts s = cc
none-of-if test false bursts s = s

moves-barrier : (ways : ℕ) (h : Header) (past : Trace) (p bar : ℕ) (o : Op) (burst : List Event) → is_barrier bar ≡ true
    → bursts_of ways h past p (request_of o (state_named h past p o)) ≡ barrier_bursts h past p bar
    → list_any (λ move. same_burst move burst) (moves_of ways h past p o) ≡ true → IsBeside p burst ⊎ AsksBarrier p burst
moves-barrier ways h past p bar o burst is asks s =
    ends-or-asks-barrier ways h past p bar o (closing_of h past p o) burst is asks (closing-quiet h past p o)
    (none-of-if (λ move. same_burst move burst) (is_waiting h past p o) _ s)

abbrev pub GoesOn : Option Op → ℕ → List Event → Type 0
GoesOn next p burst = IsBeside p burst ⊎ IsForOperation next p burst ⊎ AsksBarrier p burst

barrier-goes-on : (next : Option Op) (p : ℕ) (burst : List Event) → IsBeside p burst ⊎ AsksBarrier p burst → GoesOn next p burst
barrier-goes-on next p burst (inl beside) = inl beside
barrier-goes-on next p burst (inr asks) = inr (inr asks)

operation-goes-on : (ways : ℕ) (h : Header) (past : Trace) (p : ℕ) (o : Op) (burst : List Event)
    → list_any (λ move. same_burst move burst) (moves_of ways h past p o) ≡ true → GoesOn (Some o) p burst
operation-goes-on ways h past p op.Mb burst s = barrier-goes-on (Some op.Mb) p burst (moves-barrier ways h past p memory_bar op.Mb burst refl refl s)
operation-goes-on ways h past p op.Sb burst s = barrier-goes-on (Some op.Sb) p burst (moves-barrier ways h past p synchronisation_bar op.Sb burst refl refl s)
operation-goes-on ways h past p o burst s =
    inr (inl (refl, any-all (is_ordinary p) (same-ordinary p) burst (moves_of ways h past p o) s (moves-ordinary ways h past p o refl)))

pub goes-on-shape : (ways : ℕ) (next : Option Op) (h : Header) (past : Trace) (p : ℕ) (burst : List Event) → goes_on ways next h past p burst ≡ true → GoesOn next p burst
goes-on-shape ways None h past p burst s =
    elim (any-append (λ move. same_burst move burst) (completion_bursts h past p) [] s) [
      | inl completes ↦ inl (completion-beside h past p burst completes)
      | inr none ↦ cc
    ]
goes-on-shape ways (Some o) h past p burst s =
    elim (any-append (λ move. same_burst move burst) (completion_bursts h past p) (flat_map (moves_of ways h past p) (o ∷ [])) s) [
      | inl completes ↦ inl (completion-beside h past p burst completes)
      | inr asks ↦ elim (any-append (λ move. same_burst move burst) (moves_of ways h past p o) [] asks) [
        | inl of ↦ operation-goes-on ways h past p o burst of
        | inr none ↦ cc
      ]
    ]
