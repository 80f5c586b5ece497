-- What the walk of a line finds is the place of the line in the list of lines.
use Rattle.std.proofs.Common.{◌≡◌, ℕ, ◌<◌, cond, nat_eq, position, List, length, get_or, Option, Some, None, refl, sym, ap, ◌∙◌, arith, lt-ltb}
use Rattle.std.proofs.lemmas.Bool.{eq-eqb, eqb-true, ne_eqb}
use Rattle.std.proofs.lemmas.List.{get_or_default}
use Rattle.std.proofs.lemmas.List.Quantifiers.{position-Some}
use Rattle.std.proofs.lemmas.List.Sums.{position_or_len_is}
use Rattle.std.specs.Prelude.{nat_lt}
use Rattle.std.specs.Cmp.{nat_eq_equiv}
use Rattle.std.specs.List.{IsDistinct}
use Rattle.indexmap.proofs.MapLemmas.{distinct_from_apart}
use Rattle.ace_places.specs.declared.walk.End.{End}
use Rattle.ace_places.specs.declared.walk.End.TheVariants.{IsAt, IsFree}
use Rattle.ace_places.specs.Walks.{IsTree, first_digits, first_slot, link_at, steps, walk}
use Rattle.ace_places.proofs.Walks.{walk-right}

module _ (lines links : List ℕ) (t : IsTree lines links) where
  -- a line stands at one place
  pub one-place : (i k : ℕ) → i < length lines → k < length lines → get_or lines i 0 ≡ get_or lines k 0 → i ≡ k
  one-place i k low high same =
      let there = t.found i low in
      let here = t.found k high in
      let both : IsAt i ≡ IsAt k = sym there ∙ ap (λ l. walk lines (link_at links) l steps (first_slot l) (first_digits l)) same ∙ here in
      cc

  pub place-found : (line i : ℕ) → walk lines (link_at links) line steps (first_slot line) (first_digits line) ≡ IsAt i → position (nat_eq line) lines ≡ Some i
  place-found line i is =
      let right = walk-right lines (link_at links) line steps (first_slot line) (first_digits line) i is in
      let first = position_or_len_is (nat_eq line) lines i 0 (omega (arith, right.0))
      (λ k under. ne_eqb line (get_or lines k 0) (λ same. let one = one-place k i (omega (arith, under, right.0)) right.0 (sym same ∙ sym right.1) in omega (arith, one, under)))
      (λ within. eq-eqb line (get_or lines i 0) (sym right.1)) in
      ap (λ n. cond (nat_lt n (length lines)) (Some n) None) first ∙ ap (λ b. cond b (Some i) None) (lt-ltb i (length lines) right.0)

  pub place-missing : (line s : ℕ) → walk lines (link_at links) line steps (first_slot line) (first_digits line) ≡ IsFree s → position (nat_eq line) lines ≡ None
  place-missing line s is = by (position (nat_eq line) lines) refl
    where
      by : (o : Option ℕ) → position (nat_eq line) lines ≡ o → position (nat_eq line) lines ≡ None
      by None p = p
      by (Some i) p =
          let found = position-Some (nat_eq line) lines i 0 p in
          let same : line ≡ get_or lines i 0 = eqb-true _ _ found.1 in
          let at = t.found i found.0 in
          let bad : IsAt i ≡ IsFree s = sym at ∙ ap (λ l. walk lines (link_at links) l steps (first_slot l) (first_digits l)) (sym same) ∙ is in
          cc

  pub lines-distinct : IsDistinct nat_eq lines
  lines-distinct =
      distinct_from_apart nat_eq_equiv lines (λ i j d under low.
      ne_eqb _ _ (λ same.
      let left = get_or_default lines i d 0 (omega (arith, under, low)) in
      let right = get_or_default lines j d 0 low in
      let one = one-place i j (omega (arith, under, low)) low (sym left ∙ same ∙ right) in
      omega (arith, one, under)))

-- what a walk found that was read elsewhere
pub read-walk : (lines links ls ks : List ℕ) (line : ℕ) (e f : End) → ls ≡ lines → ks ≡ links → e ≡ walk ls (link_at ks) line steps (first_slot line) (first_digits line) → e ≡ f
    → walk lines (link_at links) line steps (first_slot line) (first_digits line) ≡ f
read-walk lines links ls ks line e f one two is found =
    sym (λ i. walk (one i) (link_at (two i)) line steps (first_slot line) (first_digits line)) ∙ sym is ∙ found
