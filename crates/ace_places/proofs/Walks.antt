-- How the walk of a line goes and ends, and what leaves it as it is.
use Rattle.std.proofs.Common.{◌≡◌, ℕ, zero, suc, ◌+◌, ◌-◌, ◌/◌, ◌<◌, ◌≤◌, ◌==◌, if◌then◌else◌, Bool, true, false, List, [], ◌∷◌, ◌++◌, length, length-append, get_or, refl, sym, ap, subst, ◌∙◌, arith, lt-ltb}
use Rattle.std.proofs.lemmas.Bool.{eq-eqb, eqb-true, ne_eqb, ltb-true, ltb-false}
use Rattle.std.proofs.lemmas.List.{get_or_append_left}
use Rattle.std.specs.Prelude.{nat_lt}
use Rattle.ace_places.specs.declared.walk.Look.{Look}
use Rattle.ace_places.specs.declared.walk.Look.TheVariants.{Ends, IsHere, LeadsTo}
use Rattle.ace_places.specs.declared.walk.End.TheVariants.{IsAt}
use Rattle.ace_places.specs.Walks.{read_slot, after_look, slot_below, walk}

module _ (lines : List ℕ) (link : ℕ → ℕ) (line : ℕ) where
  -- one step of the walk
  pub step : (n slot digits : ℕ) → 0 < n → (r : Look) → r ≡ read_slot lines link line slot
      → walk lines link line n slot digits ≡ after_look lines link line slot (λ place. walk lines link line (n - 1) (slot_below place digits) (digits / 16)) r
  step zero slot digits some r is = absurd (omega arith)
  step (suc n) slot digits some r is =
      let less : n ≡ suc n - 1 = omega arith in
      ap (after_look lines link line slot (λ place. walk lines link line n (slot_below place digits) (digits / 16))) (sym is)
      ∙ ap (λ m. after_look lines link line slot (λ place. walk lines link line m (slot_below place digits) (digits / 16)) r) less

  -- what a slot says of the lines
  abbrev pub Says : ℕ → Look → Type 0
  Says slot Ends = length lines ≤ link slot
  Says slot (IsHere place) = (place ≡ link slot) × (place < length lines) × (get_or lines place 0 ≡ line)
  Says slot (LeadsTo place) = (place ≡ link slot) × (place < length lines) × (get_or lines place 0 ≡ line → ⊥)

  pub says : (slot : ℕ) → Says slot (read_slot lines link line slot)
  says slot = by (nat_lt (link slot) (length lines)) refl
    where
      inside : link slot < length lines → (b : Bool) → (get_or lines (link slot) 0 == line) ≡ b → Says slot (if b then IsHere (link slot) else LeadsTo (link slot))
      inside low true is = (refl, low, eqb-true _ _ is)
      inside low false is = (refl, low, λ same. let bad : true ≡ false = sym (eq-eqb _ _ same) ∙ is in cc)

      by : (b : Bool) → nat_lt (link slot) (length lines) ≡ b
          → Says slot (if b then (if get_or lines (link slot) 0 == line then IsHere (link slot) else LeadsTo (link slot)) else Ends)
      by true is = inside (ltb-true _ _ is) (get_or lines (link slot) 0 == line) refl
      by false is = ltb-false _ _ is

  pub here : (slot : ℕ) → link slot < length lines → get_or lines (link slot) 0 ≡ line → read_slot lines link line slot ≡ IsHere (link slot)
  here slot low same = let a = lt-ltb _ _ low in let b = eq-eqb _ _ same in rw (a, b) refl

  pub other : (slot : ℕ) → link slot < length lines → (get_or lines (link slot) 0 ≡ line → ⊥) → read_slot lines link line slot ≡ LeadsTo (link slot)
  other slot low apart = let a = lt-ltb _ _ low in let b = ne_eqb _ _ apart in rw (a, b) refl

  -- a walk that ends at a place is right
  pub walk-right : (n slot digits i : ℕ) → walk lines link line n slot digits ≡ IsAt i → (i < length lines) × (get_or lines i 0 ≡ line)
  walk-right zero slot digits i is = cc
  walk-right (suc n) slot digits i is = by (read_slot lines link line slot) (says slot) (λ place. walk-right n (slot_below place digits) (digits / 16) i) is
    where
      by : (r : Look) → Says slot r → ((place : ℕ) → walk lines link line n (slot_below place digits) (digits / 16) ≡ IsAt i → (i < length lines) × (get_or lines i 0 ≡ line))
          → after_look lines link line slot (λ place. walk lines link line n (slot_below place digits) (digits / 16)) r ≡ IsAt i → (i < length lines) × (get_or lines i 0 ≡ line)
      by Ends s on is = cc
      by (IsHere place) s on is = let same : place ≡ i = cc in subst (λ k. (k < length lines) × (get_or lines k 0 ≡ line)) same (s.1, s.2)
      by (LeadsTo place) s on is = on place is

-- The slots of one more line: the free slot leads to its place, and each other slot leads where it led.
pub record IsLinked (lines : List ℕ) (link now : ℕ → ℕ) (free : ℕ) : Type 0 where
  pub free_was : length lines ≤ link free
  pub leads : now free ≡ length lines
  pub others : (s : ℕ) → (s ≡ free → ⊥) → now s ≡ link s

module _ (lines : List ℕ) (link now : ℕ → ℕ) (free line : ℕ) (linked : IsLinked lines link now free) where
  -- the lines after it comes
  abbrev pub more : List ℕ
  more = lines ++ line ∷ []

  count : length more ≡ length lines + 1
  count = length-append lines (line ∷ [])

  -- a slot that led somewhere leads there
  pub stays : (slot : ℕ) → link slot < length lines → (now slot ≡ link slot) × (link slot < length more) × (get_or more (link slot) 0 ≡ get_or lines (link slot) 0)
  stays slot low =
      let was = linked.free_was in (
        linked.others slot (λ same. let at : link slot ≡ link free = ap link same in omega (arith, at, was, low)),
        omega (arith, count, low),
        get_or_append_left lines (line ∷ []) 0 (link slot) low,
      )

  -- a walk that ended at a place ends there
  pub walk-stays : (k n m slot digits i : ℕ) → n ≤ m → walk lines link k n slot digits ≡ IsAt i → walk more now k m slot digits ≡ IsAt i
  walk-stays k zero m slot digits i few is = cc
  walk-stays k (suc n) zero slot digits i few is = absurd (omega arith)
  walk-stays k (suc n) (suc m) slot digits i few is =
      by (read_slot lines link k slot) (says lines link k slot) (λ place. walk-stays k n m (slot_below place digits) (digits / 16) i (omega arith)) is
    where
      on : (r : Look) → read_slot more now k slot ≡ r → after_look more now k slot (λ place. walk more now k m (slot_below place digits) (digits / 16)) r ≡ IsAt i
          → walk more now k (suc m) slot digits ≡ IsAt i
      on r at done = ap (after_look more now k slot (λ place. walk more now k m (slot_below place digits) (digits / 16))) at ∙ done

      by : (r : Look) → Says lines link k slot r → ((place : ℕ) → walk lines link k n (slot_below place digits) (digits / 16) ≡ IsAt i → walk more now k m (slot_below place digits) (digits / 16) ≡ IsAt i)
          → after_look lines link k slot (λ place. walk lines link k n (slot_below place digits) (digits / 16)) r ≡ IsAt i → walk more now k (suc m) slot digits ≡ IsAt i
      by Ends s next is = cc
      by (IsHere place) s next is =
          let at = stays slot (subst (λ p. p < length lines) s.0 s.1) in
          let same : place ≡ now slot = s.0 ∙ sym at.0 in
          on (IsHere (now slot)) (here more now k slot (subst (λ p. p < length more) (sym at.0) at.1) (ap (λ p. get_or more p 0) at.0 ∙ at.2 ∙ ap (λ p. get_or lines p 0) (sym s.0) ∙ s.2))
          (ap IsAt (sym same) ∙ is)
      by (LeadsTo place) s next is =
          let at = stays slot (subst (λ p. p < length lines) s.0 s.1) in
          let same : place ≡ now slot = s.0 ∙ sym at.0 in
          on (LeadsTo (now slot)) (other more now k slot (subst (λ p. p < length more) (sym at.0) at.1) (λ e. s.2 (ap (λ p. get_or lines p 0) s.0 ∙ sym at.2 ∙ ap (λ p. get_or more p 0) (sym at.0) ∙ e)))
          (subst (λ p. walk more now k m (slot_below p digits) (digits / 16) ≡ IsAt i) same (next place is))
