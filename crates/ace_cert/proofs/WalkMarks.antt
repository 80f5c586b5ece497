-- What the marks tell of a point.
use Rattle.std.proofs.Common.{◌≡◌, ℕ, suc, ◌+◌, ◌-◌, ◌<◌, ◌≤◌, true, false, nat_le, if◌then◌else◌, List, [], ◌∷◌, ◌++◌, length, reverse, take, slice_get, Some, refl, sym, ap, ◌∙◌, arith, length-append, length-take, append_assoc, drop, get_or}
use Rattle.std.proofs.lemmas.Bool.{eq-eqb, ne_eqb}
use Rattle.std.proofs.lemmas.List.{reverse-append, length-reverse}
use Rattle.std.proofs.lemmas.Option.{slice_get-get_or}
use lib.Seq.{split_at}
use Rattle.ace_cert.specs.declared.verification.lines.Mark.{Mark}
use Rattle.ace_cert.specs.Walk.{AreMarksBefore, blank, facts_behind}

-- newer marks don't matter to older ones
behind-older : (newer older : List Mark) (k q : ℕ) → k ≤ length older → facts_behind (newer ++ older) k q ≡ facts_behind older k q
behind-older [] older k q low = refl
behind-older (m ∷ ms) older k q low =
    let count = length-append ms older in
    let other = ne_eqb k (length (ms ++ older) + 1) (λ same. absurd (omega (arith, same))) in
    rw other (behind-older ms older k q low)

turned : (xs : List Mark) (m : Mark) (ys : List Mark) → reverse (xs ++ m ∷ ys) ≡ reverse ys ++ (m ∷ reverse xs)
turned xs m ys =
    reverse-append xs (m ∷ ys) ∙ ap (λ zs. zs ++ reverse xs) (reverse-append (m ∷ []) ys) ∙ append_assoc (reverse ys) (m ∷ []) (reverse xs)

-- the k-th mark from 1 of the list with the newest first
pub at-mark : (marks : List Mark) (k : ℕ) (d : Mark) (q : ℕ) → AreMarksBefore marks → k < length marks
    → facts_behind (reverse marks) (k + 1) q
    ≡ (if nat_le (get_or marks k d).point q then (get_or marks k d).facts else facts_behind (reverse marks) (get_or marks k d).before q)
at-mark marks k d q before low =
    let m = get_or marks k d in
    let there : slice_get marks k ≡ Some m = slice_get-get_or marks k d low in
    let parts = split_at marks k d low in
    let taken = length-take k marks in
    let reversed = length-reverse (take k marks) in
    let count : length (reverse (take k marks)) ≡ k = omega (arith, taken, reversed) in
    let whole : reverse marks ≡ reverse (drop (suc k) marks) ++ (m ∷ reverse (take k marks)) = ap reverse parts ∙ turned (take k marks) m (drop (suc k) marks) in
    let under = before k m there in
    let top = eq-eqb (k + 1) (length (reverse (take k marks)) + 1) (omega (arith, count)) in
    let first = behind-older (reverse (drop (suc k) marks)) (m ∷ reverse (take k marks)) (k + 1) q (omega (arith, count)) in
    let older = behind-older (reverse (drop (suc k) marks)) (m ∷ reverse (take k marks)) m.before q (omega (arith, count, under)) in
    let other = ne_eqb m.before (length (reverse (take k marks)) + 1) (λ same. absurd (omega (arith, same, count, under))) in
    let here : facts_behind (reverse marks) (k + 1) q ≡ facts_behind (m ∷ reverse (take k marks)) (k + 1) q = ap (λ ms. facts_behind ms (k + 1) q) whole ∙ first in
    let below : facts_behind (reverse marks) m.before q ≡ facts_behind (reverse (take k marks)) m.before q =
    ap (λ ms. facts_behind ms m.before q) whole ∙ older ∙ ap (λ b. if b then (if nat_le m.point q then m.facts else facts_behind (reverse (take k marks)) m.before q) else facts_behind (reverse (take k marks)) m.before q) other in
    here ∙ ap (λ b. if b then (if nat_le m.point q then m.facts else facts_behind (reverse (take k marks)) m.before q) else facts_behind (reverse (take k marks)) (k + 1) q) top
    ∙ ap (λ f. if nat_le m.point q then m.facts else f) (sym below)

pub behind-none : (marks : List Mark) (q : ℕ) → facts_behind marks 0 q ≡ blank
behind-none [] q = refl
behind-none (m ∷ ms) q =
    let other = ne_eqb 0 (length ms + 1) (λ same. absurd (omega (arith, same))) in
    rw other (behind-none ms q)

module _ (marks : List Mark) (newest k q : ℕ) (d : Mark) (before : AreMarksBefore marks) (high : 0 < k) (low : k ≤ length marks)
    (same : facts_behind (reverse marks) newest q ≡ facts_behind (reverse marks) k q) where
  one : facts_behind (reverse marks) newest q
      ≡ (if nat_le (get_or marks (k - 1) d).point q then (get_or marks (k - 1) d).facts else facts_behind (reverse marks) (get_or marks (k - 1) d).before q)
  one =
      let here : k ≡ k - 1 + 1 = omega (arith, high) in
      same ∙ ap (λ n. facts_behind (reverse marks) n q) here ∙ at-mark marks (k - 1) d q before (omega (arith, high, low))

  pub behind-taken : (get_or marks (k - 1) d).point ≤ q → (get_or marks (k - 1) d).facts ≡ facts_behind (reverse marks) newest q
  behind-taken under = let t : nat_le (get_or marks (k - 1) d).point q ≡ true = grind (arith, under) in sym (one ∙ rw t refl)

  pub behind-skipped : q < (get_or marks (k - 1) d).point → facts_behind (reverse marks) newest q ≡ facts_behind (reverse marks) (get_or marks (k - 1) d).before q
  behind-skipped over = let f : nat_le (get_or marks (k - 1) d).point q ≡ false = grind (arith, over) in one ∙ rw f refl

  pub before-mark : (get_or marks (k - 1) d).before < k
  before-mark =
      let under = before (k - 1) (get_or marks (k - 1) d) (slice_get-get_or marks (k - 1) d (omega (arith, high, low))) in
      omega (arith, under, high)

  pub within-mark : (get_or marks (k - 1) d).before ≤ length marks
  within-mark = let under = before-mark in omega (arith, under, low)
