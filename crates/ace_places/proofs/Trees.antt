-- The tree after one more line has come.
use Rattle.std.proofs.Common.{◌≡◌, inl, inr, ℕ, zero, suc, ◌+◌, ◌-◌, ◌*◌, ◌%◌, ◌^◌, ◌<◌, ◌≤◌, ◌==◌, if◌then◌else◌, List, [], ◌∷◌, ◌++◌, length, length-append, get_or, refl, sym, ap, subst, ◌∙◌, arith}
use native.Mathlib.Decide.{dec_lt}
use Rattle.std.proofs.lemmas.Bool.{cases_eq, eq-eqb, ne_eqb}
use Rattle.std.proofs.lemmas.List.{get_or_append_left, get_or-append_right, get_or_past}
use Rattle.ace_places.specs.declared.walk.End.TheVariants.{IsAt, IsFree}
use Rattle.ace_places.specs.Walks.{HaveSameStart, IsTree, digits_from, first_digits, first_slot, link_at, steps, walk}
use Rattle.ace_places.proofs.Walks.{IsLinked, walk-stays}
use Rattle.ace_places.proofs.Depths.{Reached, alike-sym, walk-done, walk-new}

-- What one more line asks: where its walk ended, its place is put, below it are slots that lead nowhere, and all other slots stay.
pub record IsAdded (lines links new : List ℕ) (line free : ℕ) : Type 0 where
  pub fits : line < 2 ^ 32
  pub few : length lines < 4294967295
  pub ended : walk lines (link_at links) line steps (first_slot line) (first_digits line) ≡ IsFree free
  pub leads : link_at new free ≡ length lines
  pub others : (s : ℕ) → (s ≡ free → ⊥) → link_at new s ≡ link_at links s
  pub count : length new ≡ 1024 + 16 * (length lines + 1)

module _ (lines links new : List ℕ) (line free : ℕ) (t : IsTree lines links) (a : IsAdded lines links new line free) where
  abbrev n : ℕ
  n = length lines

  abbrev more : List ℕ
  more = lines ++ line ∷ []

  abbrev link : ℕ → ℕ
  link = link_at links

  abbrev now : ℕ → ℕ
  now = link_at new

  count : length more ≡ n + 1
  count = length-append lines (line ∷ [])

  old-line : (i : ℕ) → i < n → get_or more i 0 ≡ get_or lines i 0
  old-line i low = get_or_append_left lines (line ∷ []) 0 i low

  new-line : get_or more n 0 ≡ line
  new-line =
      let start : n - n ≡ 0 = omega arith in
      get_or-append_right lines (line ∷ []) n n 0 refl (omega arith) ∙ ap (λ p. get_or (line ∷ []) p 0) start

  ending : (length lines ≤ link free) × ((i : ℕ) × (i ≤ 6) × Reached lines links t line a.fits i free)
  ending = walk-done lines links t line a.fits 7 0 (first_slot line) (first_digits line) free refl (omega arith) refl refl a.ended

  linked : IsLinked lines link now free
  linked = record { free_was = ending.0; leads = a.leads; others = a.others }

  -- how many steps the walk of the line took
  abbrev at : ℕ
  at = ending.1.0

  depth : ℕ → ℕ
  depth p = if p == n then at else t.depth p

  depth-new : depth n ≡ at
  unfolding depth
  depth-new = let same = eq-eqb n n refl in rw same refl

  depth-old : (p : ℕ) → p < n → depth p ≡ t.depth p
  unfolding depth
  depth-old p low = let apart = ne_eqb p n (λ e. omega (arith, e, low)) in rw apart refl

  -- another slot that leads to a place now led to it before
  was-low : (s : ℕ) → (s ≡ free → ⊥) → now s < length more → (now s ≡ link s) × (link s < n)
  was-low s apart low =
      let same = a.others s apart in
      let few = a.few in (
        same,
        elim (dec_lt (link s) n) [
          | yes under ↦ under
          | no over ↦ let none = t.empty s (omega arith) in absurd (omega (arith, same, none, low, count, few))
        ],
      )

  found : (i : ℕ) → i < length more → walk more now (get_or more i 0) steps (first_slot (get_or more i 0)) (first_digits (get_or more i 0)) ≡ IsAt i
  found i low =
      elim (cases_eq i n) [
        | inl same ↦
            let it : get_or more i 0 ≡ line = ap (λ k. get_or more k 0) same ∙ new-line in
            subst (λ l. walk more now l steps (first_slot l) (first_digits l) ≡ IsAt i) (sym it)
            (walk-new lines links t line a.fits now free linked 7 0 (first_slot line) (first_digits line) refl (omega arith) refl refl a.ended ∙ ap IsAt (sym same))
        | inr apart ↦
            let under : i < n = omega (arith, low, count, apart) in
            let it = old-line i under in
            subst (λ l. walk more now l steps (first_slot l) (first_digits l) ≡ IsAt i) (sym it)
            (walk-stays lines link now free line linked (get_or lines i 0) 7 7 (first_slot (get_or lines i 0)) (first_digits (get_or lines i 0)) i (omega arith) (t.found i under))
      ]

  first : (s : ℕ) → s < 1024 → now s < length more → (depth (now s) ≡ 0) × (first_slot (get_or more (now s) 0) ≡ s)
  first s root low =
      elim (cases_eq s free) [
        | inl same ↦
            let to_new : now s ≡ n = ap now same ∙ a.leads in
            let r = by at ending.1.2 (omega (arith, same, root)) in
            (ap depth to_new ∙ depth-new ∙ r.0, ap (λ p. first_slot (get_or more p 0)) to_new ∙ ap first_slot new-line ∙ sym r.1 ∙ sym same)
        | inr apart ↦
            let w = was-low s apart low in
            let f = t.first s root w.1 in
            (ap depth w.0 ∙ depth-old (link s) w.1 ∙ f.0, ap (λ p. first_slot (get_or more p 0)) w.0 ∙ ap first_slot (old-line (link s) w.1) ∙ f.1)
      ]
    where
      by : (k : ℕ) → Reached lines links t line a.fits k free → free < 1024 → (k ≡ 0) × (free ≡ first_slot line)
      by zero r root = (refl, r)
      by (suc k) r root = let far = r.3 in absurd (omega (arith, far, root))

  below : (p c : ℕ) → p < length more → c < 16 → now (1024 + 16 * p + c) < length more
      → (depth (now (1024 + 16 * p + c)) ≡ depth p + 1) × HaveSameStart (depth p) (get_or more (now (1024 + 16 * p + c)) 0) (get_or more p 0)
      × (digits_from (depth p) (first_digits (get_or more (now (1024 + 16 * p + c)) 0)) % 16 ≡ c)
  below p c inside digit low =
      elim (cases_eq (1024 + 16 * p + c) free) [
        | inl same ↦ on-new p c inside digit same at refl ending.1.2
        | inr apart ↦
            let w = was-low (1024 + 16 * p + c) apart low in
            let under = is-old p c digit w.1 inside in
            let b = t.below p c under digit w.1 in
            let d = depth-old p under in
            let far : get_or more (now (1024 + 16 * p + c)) 0 ≡ get_or lines (link (1024 + 16 * p + c)) 0 = ap (λ k. get_or more k 0) w.0 ∙ old-line (link (1024 + 16 * p + c)) w.1 in
            let near : get_or more p 0 ≡ get_or lines p 0 = old-line p under in (
              ap depth w.0 ∙ depth-old (link (1024 + 16 * p + c)) w.1 ∙ b.0 ∙ ap (λ k. k + 1) (sym d),
              subst (λ k. HaveSameStart k (get_or more (now (1024 + 16 * p + c)) 0) (get_or more p 0)) (sym d)
                  (subst (λ l. HaveSameStart (t.depth p) l (get_or more p 0)) (sym far) (subst (HaveSameStart (t.depth p) (get_or lines (link (1024 + 16 * p + c)) 0)) (sym near) b.1)),
              ap (λ k. digits_from k (first_digits (get_or more (now (1024 + 16 * p + c)) 0)) % 16) d ∙ ap (λ l. digits_from (t.depth p) (first_digits l) % 16) far ∙ b.2,
            )
      ]
    where
      -- a slot of the new place leads nowhere
      is-old : (p c : ℕ) → c < 16 → link (1024 + 16 * p + c) < n → p < length more → p < n
      is-old p c digit leads inside =
          elim (cases_eq p n) [
            | inr apart ↦ omega (arith, inside, count, apart)
            | inl same ↦
                let few = a.few in
                let none = get_or_past links (1024 + 16 * p + c) 4294967295 (past same) in
                absurd (omega (arith, none, leads, few))
          ]
        where
          past : p ≡ n → length links ≤ 1024 + 16 * p + c
          past same = elim (dec_lt 0 (length links)) [
            | yes some ↦ let all = t.slots some in omega (arith, all, same)
            | no none ↦ omega (arith, none)
          ]

      on-new : (p c : ℕ) → p < length more → c < 16 → 1024 + 16 * p + c ≡ free → (k : ℕ) → at ≡ k → Reached lines links t line a.fits k free
          → (depth (now (1024 + 16 * p + c)) ≡ depth p + 1) × HaveSameStart (depth p) (get_or more (now (1024 + 16 * p + c)) 0) (get_or more p 0)
          × (digits_from (depth p) (first_digits (get_or more (now (1024 + 16 * p + c)) 0)) % 16 ≡ c)
      on-new p c inside digit same zero is r = absurd (omega (arith, same, r))
      on-new p c inside digit same (suc k) is r =
          let place = r.3 in
          let own : r.0 ≡ p = omega (arith, same, place, digit) in
          let own-digit : digits_from k (first_digits line) % 16 ≡ c = omega (arith, same, place, digit) in
          let under : p < n = subst (λ q. q < n) own r.1 in
          let d : depth p ≡ k = depth-old p under ∙ ap t.depth (sym own) ∙ r.2 in
          let to_new : now (1024 + 16 * p + c) ≡ n = ap now same ∙ a.leads in
          let far : get_or more (now (1024 + 16 * p + c)) 0 ≡ line = ap (λ q. get_or more q 0) to_new ∙ new-line in
          let near : get_or more p 0 ≡ get_or lines r.0 0 = old-line p under ∙ ap (λ q. get_or lines q 0) (sym own) in
          let deeper : depth (now (1024 + 16 * p + c)) ≡ depth p + 1 = ap depth to_new ∙ depth-new ∙ is ∙ ap suc (sym d) ∙ omega arith in (
            deeper,
            subst (λ k. HaveSameStart k (get_or more (now (1024 + 16 * p + c)) 0) (get_or more p 0)) (sym d)
                (subst (λ l. HaveSameStart k l (get_or more p 0)) (sym far) (subst (HaveSameStart k line) (sym near) (sym r.4.0, alike-sym k _ _ r.4.1))),
            ap (λ k. digits_from k (first_digits (get_or more (now (1024 + 16 * p + c)) 0)) % 16) d ∙ ap (λ l. digits_from k (first_digits l) % 16) far ∙ own-digit,
          )

  empty : (s : ℕ) → length more ≤ now s → now s ≡ 4294967295
  empty s past =
      elim (cases_eq s free) [
        | inl same ↦ let to_new : now s ≡ n = ap now same ∙ a.leads in absurd (omega (arith, to_new, past, count))
        | inr apart ↦ let it = a.others s apart in it ∙ t.empty s (omega (arith, it, past, count))
      ]

  small : (i : ℕ) → get_or more i 0 < 2 ^ 32
  small i =
      elim (dec_lt i n) [
        | yes under ↦ let it = old-line i under in let was = t.small i in omega (arith, it, was)
        | no over ↦ elim (cases_eq i n) [
          | inl same ↦ let it = ap (λ k. get_or more k 0) same ∙ new-line in let fits = a.fits in omega (arith, it, fits)
          | inr apart ↦ let it = get_or_past more i 0 (omega (arith, count, over, apart)) in omega (arith, it)
        ]
      ]

  pub tree-with : IsTree more new
  tree-with =
      let len = a.count in
      record {
        found = found;
        depth = depth;
        first = first;
        below = below;
        empty = empty;
        small = small;
        slots = λ some. omega (arith, len, count);
        none = λ none. absurd (omega (arith, len, none));
      }
