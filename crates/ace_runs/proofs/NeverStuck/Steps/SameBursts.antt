-- Bursts of the same events: a test that tells the same of the same events passes for all of both or of neither.
use Rattle.std.proofs.Common.{◌≡◌, Bool, true, ◌&&◌, List, [], ◌∷◌, length, refl, sym, ap, ◌∙◌, arith, inl, inr}
use Rattle.std.specs.List.{list_all, list_any}
use Rattle.std.proofs.lemmas.Bool.{and_parts, and_from, or_cases}
use Rattle.ace_event.specs.declared.event.Event.{Event}
use Rattle.ace_runs.specs.SameEvents.{same_burst, same_event}
use Rattle.ace_runs.proofs.NeverStuck.Steps.SameEvents.{TellsSame, equal-event, event-self, is_lineless}

pub burst-self : (burst : List Event) → same_burst burst burst ≡ true
burst-self [] = refl
burst-self (e ∷ burst) = and_from _ _ (event-self e) (burst-self burst)

pub same-length : (ds es : List Event) → same_burst ds es ≡ true → length es ≡ length ds
same-length [] [] s = refl
same-length [] (e ∷ es) s = cc
same-length (d ∷ ds) [] s = cc
same-length (d ∷ ds) (e ∷ es) s = let l = same-length ds es (and_parts (same_event d e) (same_burst ds es) s).1 in omega (arith, l)

pub same-burst-all : (test : Event → Bool) → TellsSame test → (ds es : List Event) → same_burst ds es ≡ true → list_all test ds ≡ list_all test es
same-burst-all test same [] [] s = refl
same-burst-all test same [] (e ∷ es) s = cc
same-burst-all test same (d ∷ ds) [] s = cc
same-burst-all test same (d ∷ ds) (e ∷ es) s =
    let parts = and_parts (same_event d e) (same_burst ds es) s in
    ap (λ b. b && list_all test ds) (same d e parts.0) ∙ ap (λ b. test e && b) (same-burst-all test same ds es parts.1)

-- a burst that is the same as events that pass the test
pub all-as : (test : Event → Bool) → TellsSame test → (ds es : List Event) → same_burst ds es ≡ true → list_all test ds ≡ true → list_all test es ≡ true
all-as test same ds es s m = sym (same-burst-all test same ds es s) ∙ m

-- a burst that is the same as one of those that pass the test
pub any-all : (test : Event → Bool) → TellsSame test → (burst : List Event) (bursts : List (List Event)) → list_any (λ move. same_burst move burst) bursts ≡ true
    → list_all (list_all test) bursts ≡ true → list_all test burst ≡ true
any-all test same burst [] s m = cc
any-all test same burst (move ∷ bursts) s m =
    let of = and_parts (list_all test move) (list_all (list_all test) bursts) m in
    elim (or_cases (same_burst move burst) _ s) [ inl one ↦ all-as test same move burst one of.0 | inr later ↦ any-all test same burst bursts later of.1 ]

-- bursts of the same events without lines are equal
pub equal-burst : (ds es : List Event) → same_burst ds es ≡ true → list_all is_lineless ds ≡ true → ds ≡ es
equal-burst [] [] same none = refl
equal-burst [] (e ∷ es) same none = cc
equal-burst (d ∷ ds) [] same none = cc
equal-burst (d ∷ ds) (e ∷ es) same none =
    let s = and_parts (same_event d e) (same_burst ds es) same in
    let n = and_parts (is_lineless d) (list_all is_lineless ds) none in
    rw (equal-event d e s.0 n.0, equal-burst ds es s.1 n.1) refl
