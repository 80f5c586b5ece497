-- A walk comes to its end: a place that it leads to after k steps has a line with the same number
-- and the same first k digits, and where all six are the same it is the line itself.
use Rattle.std.proofs.Common.{◌≡◌, ℕ, zero, suc, ◌+◌, ◌-◌, ◌*◌, ◌/◌, ◌%◌, ◌^◌, ◌<◌, ◌≤◌, List, [], ◌∷◌, ◌++◌, length, length-append, get_or, refl, sym, ap, subst, ◌∙◌, arith}
use Rattle.std.proofs.lemmas.List.{get_or-append_right}
use Rattle.ace_places.specs.declared.walk.Look.{Look}
use Rattle.ace_places.specs.declared.walk.Look.TheVariants.{Ends, IsHere, LeadsTo}
use Rattle.ace_places.specs.declared.walk.End.TheVariants.{IsAt, IsFree}
use Rattle.ace_places.specs.Walks.{AreAlike, HaveSameStart, IsTree, after_look, digits_from, first_digits, first_slot, link_at, read_slot, slot_below, walk}
use Rattle.ace_places.proofs.Walks.{IsLinked, Says, says, here, other, stays}

pub alike-sym : (k a b : ℕ) → AreAlike k a b → AreAlike k b a
alike-sym zero a b s = tt
alike-sym (suc k) a b s = (sym s.0, alike-sym k (a / 16) (b / 16) s.1)

pub alike-trans : (k a b c : ℕ) → AreAlike k a b → AreAlike k b c → AreAlike k a c
alike-trans zero a b c s t = tt
alike-trans (suc k) a b c s t = (s.0 ∙ t.0, alike-trans k (a / 16) (b / 16) (c / 16) s.1 t.1)

-- one more digit
pub alike-more : (k a b : ℕ) → AreAlike k a b → digits_from k a % 16 ≡ digits_from k b % 16 → AreAlike (suc k) a b
alike-more zero a b s next = (next, tt)
alike-more (suc k) a b s next = (s.0, alike-more k (a / 16) (b / 16) s.1 next)

pub digits-next : (k a : ℕ) → digits_from k a / 16 ≡ digits_from (suc k) a
digits-next zero a = refl
digits-next (suc k) a = digits-next k (a / 16)

digits-same : (a b : ℕ) → a < 2 ^ 24 → b < 2 ^ 24 → AreAlike 6 a b → a ≡ b
digits-same a b low high s =
    let s0 = s.0 in let s1 = s.1.0 in let s2 = s.1.1.0 in let s3 = s.1.1.1.0 in let s4 = s.1.1.1.1.0 in let s5 = s.1.1.1.1.1.0 in
    omega (arith, s0, s1, s2, s3, s4, s5)

-- lines with the same number and the same digits are the same
pub same-line : (a b : ℕ) → a < 2 ^ 32 → b < 2 ^ 32 → HaveSameStart 6 a b → a ≡ b
same-line a b low high s =
    let number = s.0 in
    let digits = digits-same (first_digits a) (first_digits b) (omega arith) (omega arith) s.1 in
    omega (arith, number, digits)

module _ (lines links : List ℕ) (t : IsTree lines links) (line : ℕ) (fits : line < 2 ^ 32) where
  abbrev link : ℕ → ℕ
  link = link_at links

  -- the slot to which the walk of the line comes after k steps
  abbrev pub Reached : ℕ → ℕ → Type 0
  Reached zero slot = slot ≡ first_slot line
  Reached (suc k) slot = (p : ℕ) × (p < length lines) × (t.depth p ≡ k) × (slot ≡ slot_below p (digits_from k (first_digits line))) × HaveSameStart k (get_or lines p 0) line

  -- to which place it leads
  reached-place : (k slot : ℕ) → Reached k slot → link slot < length lines → (t.depth (link slot) ≡ k) × HaveSameStart k (get_or lines (link slot) 0) line
  reached-place zero slot r low =
      let within : slot < 1024 = omega (arith, r) in
      let one = t.first slot within low in
      (one.0, (one.1 ∙ r, tt))
  reached-place (suc k) slot r low =
      let p = r.0 in
      let c = digits_from k (first_digits line) % 16 in
      let c-low : c < 16 = omega arith in
      let at : slot ≡ 1024 + 16 * p + c = r.3 in
      let b = t.below p c r.1 c-low (subst (λ s. link s < length lines) at low) in
      let depth : t.depth (link slot) ≡ suc k = ap (λ s. t.depth (link s)) at ∙ b.0 ∙ ap (λ d. d + 1) r.2 ∙ omega arith in
      let to_p : HaveSameStart k (get_or lines (link (1024 + 16 * p + c)) 0) (get_or lines p 0) = subst (λ d. HaveSameStart d (get_or lines (link (1024 + 16 * p + c)) 0) (get_or lines p 0)) r.2 b.1 in
      let next : digits_from k (first_digits (get_or lines (link (1024 + 16 * p + c)) 0)) % 16 ≡ c = subst (λ d. digits_from d (first_digits (get_or lines (link (1024 + 16 * p + c)) 0)) % 16 ≡ c) r.2 b.2 in (
        depth,
        subst (λ s. HaveSameStart (suc k) (get_or lines (link s) 0) line) (sym at)
            (to_p.0 ∙ r.4.0, alike-more k _ _ (alike-trans k _ _ _ to_p.1 r.4.1) next),
      )

  -- and where it goes on
  reached-on : (k slot : ℕ) → Reached k slot → k ≤ 6 → (place : ℕ) → Says lines link line slot (LeadsTo place) → (k < 6) × Reached (suc k) (slot_below place (digits_from k (first_digits line)))
  reached-on k slot r few place s =
      let low : link slot < length lines = subst (λ p. p < length lines) s.0 s.1 in
      let there = reached-place k slot r low in
      let same : HaveSameStart k (get_or lines place 0) line = subst (λ p. HaveSameStart k (get_or lines p 0) line) (sym s.0) there.1 in
      let apart : k ≡ 6 → ⊥ = λ all. s.2 (same-line (get_or lines place 0) line (t.small place) fits (subst (λ d. HaveSameStart d (get_or lines place 0) line) all same)) in
      (omega (arith, few, apart), (place, s.1, ap t.depth s.0 ∙ there.0, refl, same))

  -- where a walk ends that finds no place, it has come to a slot that leads nowhere
  pub walk-done : (n k slot digits free : ℕ) → n + k ≡ 7 → k ≤ 6 → digits ≡ digits_from k (first_digits line) → Reached k slot → walk lines link line n slot digits ≡ IsFree free
      → (length lines ≤ link free) × ((i : ℕ) × (i ≤ 6) × Reached i free)
  walk-done zero k slot digits free all few left r is = absurd (omega arith)
  walk-done (suc n) k slot digits free all few left r is =
      by (read_slot lines link line slot) (says lines link line slot) (λ place. walk-done n (suc k) (slot_below place digits) (digits / 16) free (omega arith)) is
    where
      by : (s : Look) → Says lines link line slot s
          → ((place : ℕ) → suc k ≤ 6 → digits / 16 ≡ digits_from (suc k) (first_digits line) → Reached (suc k) (slot_below place digits) → walk lines link line n (slot_below place digits) (digits / 16) ≡ IsFree free
          → (length lines ≤ link free) × ((i : ℕ) × (i ≤ 6) × Reached i free))
          → after_look lines link line slot (λ place. walk lines link line n (slot_below place digits) (digits / 16)) s ≡ IsFree free
          → (length lines ≤ link free) × ((i : ℕ) × (i ≤ 6) × Reached i free)
      by Ends s next is =
          let same : slot ≡ free = cc in
          subst (λ f. (length lines ≤ link f) × ((i : ℕ) × (i ≤ 6) × Reached i f)) same (s, (k, few, r))
      by (IsHere place) s next is = cc
      by (LeadsTo place) s next is =
          let on = reached-on k slot r few place s in
          let low = on.0 in
          next place (omega arith) (ap (λ d. d / 16) left ∙ digits-next k (first_digits line)) (subst (λ d. Reached (suc k) (slot_below place d)) (sym left) on.1) is

  module _ (now : ℕ → ℕ) (free : ℕ) (linked : IsLinked lines link now free) where
    -- the lines after the line comes
    abbrev more : List ℕ
    more = lines ++ line ∷ []

    -- a walk that ended at the free slot ends at the new place
    pub walk-new : (n k slot digits : ℕ) → n + k ≡ 7 → k ≤ 6 → digits ≡ digits_from k (first_digits line) → Reached k slot → walk lines link line n slot digits ≡ IsFree free
        → walk more now line n slot digits ≡ IsAt (length lines)
    walk-new zero k slot digits all few left r is = absurd (omega arith)
    walk-new (suc n) k slot digits all few left r is =
        by (read_slot lines link line slot) (says lines link line slot) (λ place. walk-new n (suc k) (slot_below place digits) (digits / 16) (omega arith)) is
      where
        on : (s : Look) → read_slot more now line slot ≡ s → after_look more now line slot (λ place. walk more now line n (slot_below place digits) (digits / 16)) s ≡ IsAt (length lines)
            → walk more now line (suc n) slot digits ≡ IsAt (length lines)
        on s at done = ap (after_look more now line slot (λ place. walk more now line n (slot_below place digits) (digits / 16))) at ∙ done

        by : (s : Look) → Says lines link line slot s
            → ((place : ℕ) → suc k ≤ 6 → digits / 16 ≡ digits_from (suc k) (first_digits line) → Reached (suc k) (slot_below place digits) → walk lines link line n (slot_below place digits) (digits / 16) ≡ IsFree free
            → walk more now line n (slot_below place digits) (digits / 16) ≡ IsAt (length lines))
            → after_look lines link line slot (λ place. walk lines link line n (slot_below place digits) (digits / 16)) s ≡ IsFree free → walk more now line (suc n) slot digits ≡ IsAt (length lines)
        by Ends s next is =
            let same : slot ≡ free = cc in
            let at : now slot ≡ length lines = ap now same ∙ linked.leads in
            let count = length-append lines (line ∷ []) in
            let start : length lines - length lines ≡ 0 = omega arith in
            let read : get_or more (now slot) 0 ≡ line = ap (λ p. get_or more p 0) at ∙ get_or-append_right lines (line ∷ []) (length lines) (length lines) 0 refl (omega arith) ∙ ap (λ p. get_or (line ∷ []) p 0) start in
            on (IsHere (now slot)) (here more now line slot (omega (arith, at, count)) read) (ap IsAt at)
        by (IsHere place) s next is = cc
        by (LeadsTo place) s next is =
            let step = reached-on k slot r few place s in
            let low = step.0 in
            let at = stays lines link now free line linked slot (subst (λ p. p < length lines) s.0 s.1) in
            let same : place ≡ now slot = s.0 ∙ sym at.0 in
            on (LeadsTo (now slot)) (other more now line slot (subst (λ p. p < length more) (sym at.0) at.1) (λ e. s.2 (ap (λ p. get_or lines p 0) s.0 ∙ sym at.2 ∙ ap (λ p. get_or more p 0) (sym at.0) ∙ e)))
            (subst (λ p. walk more now line n (slot_below p digits) (digits / 16) ≡ IsAt (length lines)) same
            (next place (omega arith) (ap (λ d. d / 16) left ∙ digits-next k (first_digits line)) (subst (λ d. Reached (suc k) (slot_below place d)) (sym left) step.1) is))
