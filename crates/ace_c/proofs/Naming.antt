-- The names of lines stay, and each is of one line.
use Rattle.std.proofs.Common.{◌≡◌, ◌<◌, ◌/◌, ◌==◌, ◌∷◌, ℕ, true, false, List, [], length, map, Option, Some, None, is_some, refl, sym, ap, subst, ◌∙◌, inl, inr, arith, ◌-◌, ◌^◌}
use Rattle.std.proofs.lemmas.Bool.{cases_Bool, eqb-true}
use Rattle.std.proofs.lemmas.List.{length-map}
use Rattle.ace_event.specs.declared.event.Event.{Event}
use Rattle.ace_model.specs.AddressRules.{line_address}
use Rattle.ace_model.specs.Trace.{Trace}
use Rattle.ace_check.specs.Run.{goes_over_within}
use Rattle.ace_check.proofs.WhatComes.{never-over}
use Rattle.ace_c.specs.Names.{line_used, lines_used, name_in, named, named_event, named_next, with_line}

-- a line has the name that is looked for, or none, also where its newest is another
pub name-older : (m l : ℕ) (lines : List ℕ) (k : ℕ) → name_in lines m ≡ None → name_in lines l ≡ Some k → name_in (m ∷ lines) l ≡ Some k
name-older m l lines k new named =
    elim (cases_Bool (m == l)) [
      | inr f ↦ rw f named
      | inl t ↦ let bad : None ≡ Some k = sym new ∙ ap (name_in lines) (eqb-true m l t) ∙ named in cc
    ]

-- what is found where nothing is
none-of : {A : Type 0} (o : Option A) → is_some o ≡ false → o ≡ None
none-of None none = refl
none-of (Some x) none = let bad : true ≡ false = none in cc

-- a name stays as lines come
pub name-stays : (o : Option ℕ) (l : ℕ) (lines : List ℕ) (k : ℕ) → name_in lines l ≡ Some k → name_in (with_line o lines) l ≡ Some k
name-stays None l lines k named = named
name-stays (Some m) l lines k named =
    elim (cases_Bool (is_some (name_in lines m))) [
      | inl t ↦ rw t named
      | inr f ↦ rw f (name-older m l lines k (none-of (name_in lines m) f) named)
    ]

-- a name is less than the number of lines
pub name-below : (l : ℕ) (lines : List ℕ) (k : ℕ) → name_in lines l ≡ Some k → k < length lines
name-below l [] k named = let bad : None ≡ Some k = named in cc
name-below l (m ∷ lines) k named =
    elim (cases_Bool (m == l)) [
      | inl t ↦ let same : Some (length lines) ≡ Some k = rw t at named in let is : length lines ≡ k = cc in omega (arith, is)
      | inr f ↦ let below = name-below l lines k (rw f at named) in omega (arith, below)
    ]

-- two lines with one name are one
pub one_to_one : (lines : List ℕ) (a b k : ℕ) → name_in lines a ≡ Some k → name_in lines b ≡ Some k → a ≡ b
one_to_one [] a b k left right = let bad : None ≡ Some k = left in cc
one_to_one (m ∷ lines) a b k left right =
    elim (cases_Bool (m == a)) [
      | inl t ↦ elim (cases_Bool (m == b)) [
        | inl u ↦ sym (eqb-true m a t) ∙ eqb-true m b u
        | inr g ↦
            let newest : Some (length lines) ≡ Some k = rw t at left in
            let is : length lines ≡ k = cc in
            let below = name-below b lines k (rw g at right) in
            absurd (omega (arith, is, below))
      ]
      | inr f ↦ elim (cases_Bool (m == b)) [
        | inl u ↦
            let newest : Some (length lines) ≡ Some k = rw u at right in
            let is : length lines ≡ k = cc in
            let below = name-below a lines k (rw f at left) in
            absurd (omega (arith, is, below))
        | inr g ↦ one_to_one lines a b k (rw f at left) (rw g at right)
      ]
    ]

-- ---- a trace ----

-- a line that is used has a name from then on
has-name : (l : ℕ) (lines : List ℕ) → (k : ℕ) × (name_in (with_line (Some l) lines) l ≡ Some k)
has-name l lines = by (name_in lines l) refl
  where
    by : (o : Option ℕ) → name_in lines l ≡ o → (k : ℕ) × (name_in (with_line (Some l) lines) l ≡ Some k)
    by (Some k) is = (k, rw is is)
    by None is = (length lines, rw is (self l lines))
      where
        self : (l : ℕ) (lines : List ℕ) → name_in (l ∷ lines) l ≡ Some (length lines)
        self l lines = grind arith

-- where each line of a trace has the name in both, so do its events
same-names : (past : Trace) (a b : List ℕ) → ((l k : ℕ) → name_in (lines_used past) l ≡ Some k → name_in a l ≡ name_in b l)
    → map (named_event a) past ≡ map (named_event b) past
same-names [] a b same = refl
same-names (e ∷ past) a b same =
    let first = one (line_address e) refl in
    let rest = same-names past a b (λ l k is. same l k (name-stays (line_used e) l (lines_used past) k is)) in
    rw (first, rest) refl
  where
    one : (o : Option ℕ) → line_address e ≡ o → named_event a e ≡ named_event b e
    one None is = rw is refl
    one (Some addr) is =
        let used : line_used e ≡ Some (addr / 64) = rw is refl in
        let own = has-name (addr / 64) (lines_used past) in
        let here = subst (λ (o : Option ℕ). name_in (with_line o (lines_used past)) (addr / 64) ≡ Some own.0) (sym used) own.1 in
        let both = same (addr / 64) own.0 here in
        rw (is, both) refl

-- a trace grows by the event with the name of its line
pub named_grows : (past : Trace) (e : Event) → named (e ∷ past) ≡ named_next past e ∷ named past
named_grows past e =
    ap (λ (t : Trace). named_next past e ∷ t)
    (same-names past (lines_used (e ∷ past)) (lines_used past) (λ l k is. name-stays (line_used e) l (lines_used past) k is ∙ sym is))

pub named-long : (past : Trace) → length (named past) ≡ length past
named-long past = length-map past (named_event (lines_used past))

pub names_stay : (past : Trace) (e : Event) (l k : ℕ) → name_in (lines_used past) l ≡ Some k → name_in (lines_used (e ∷ past)) l ≡ Some k
names_stay past e l k named = name-stays (line_used e) l (lines_used past) k named

pub no_limit : (past : Trace) (e : Event) → length past < 2 ^ 64 - 1 → goes_over_within (2 ^ 64 - 1) past e ≡ true → ⊥
no_limit past e few over = never-over past e few over
