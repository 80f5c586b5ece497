-- The line feeds of a load, and of what is looked at load by load.
use Rattle.std.proofs.Common.{◌≡◌, ◌≢◌, ℕ, suc, ◌+◌, ◌-◌, ◌%◌, ◌^◌, ◌<◌, ◌≤◌, cond, eqb, Bool, not, List, [], ◌∷◌, map, take, drop, length, get_or, replicate, w8, sym, ap, ◌∙◌, subst, arith, inl, inr, take-append-drop, length-drop}
use Rattle.std.proofs.lemmas.Bool.{cases_eq, eq-eqb, ne_eqb, cond-true, cond-false}
use Rattle.std.proofs.lemmas.Simd.{bitmask_splat, leading_from_mask_l, trailing_mask_l, length-chunk, get_or-chunk}
use Rattle.std.proofs.lemmas.List.{take-take, take_all}
use Rattle.std.proofs.lemmas.List.Elements.{All-append, All-cons, All-nil}
use Rattle.std.proofs.Math.Seq.{take-add}
use Rattle.std.specs.List.{prefix_len}
use lib.Lanes.{chunk, zip2, mask_l, top}
use Rattle.ace_io.specs.Lanes.{first_set}
use Rattle.ace_io.specs.Line.{HasNoLf}

abbrev pub is_other : ℕ → Bool
is_other byte = not (eqb byte 10)

one : (byte : ℕ) → byte ≢ 10 → HasNoLf (byte ∷ [])
one byte other = All-cons (λ b. b ≢ 10) byte [] other (All-nil (λ b. b ≢ 10))

stops : (byte : ℕ) (bytes : List ℕ) → byte ≡ 10 → prefix_len is_other (byte ∷ bytes) ≡ 0
stops byte bytes lf = cond-false (is_other byte) _ _ (ap not (eq-eqb byte 10 lf))

goes_on : (byte : ℕ) (bytes : List ℕ) → byte ≢ 10 → prefix_len is_other (byte ∷ bytes) ≡ suc (prefix_len is_other bytes)
goes_on byte bytes other = cond-true (is_other byte) _ _ (ap not (ne_eqb byte 10 other)) ∙ omega arith

pub before_lf : (bytes : List ℕ) → HasNoLf (take (prefix_len is_other bytes) bytes)
before_lf [] = λ k d h. absurd (omega (arith, h))
before_lf (byte ∷ bytes) =
    elim (cases_eq byte 10) [
      | inl lf ↦ subst (λ n. HasNoLf (take n (byte ∷ bytes))) (sym (stops byte bytes lf)) (λ k d h. absurd (omega (arith, h)))
      | inr other ↦ subst (λ n. HasNoLf (take n (byte ∷ bytes))) (sym (goes_on byte bytes other)) (All-append (λ b. b ≢ 10) (byte ∷ []) (take (prefix_len is_other bytes) bytes) (one byte other) (before_lf bytes))
    ]

pub at_lf : (bytes : List ℕ) → prefix_len is_other bytes < length bytes → get_or bytes (prefix_len is_other bytes) 0 ≡ 10
at_lf [] h = absurd (omega (arith, h))
at_lf (byte ∷ bytes) h =
    elim (cases_eq byte 10) [
      | inl lf ↦ ap (λ n. get_or (byte ∷ bytes) n 0) (stops byte bytes lf) ∙ lf
      | inr other ↦ ap (λ n. get_or (byte ∷ bytes) n 0) (goes_on byte bytes other) ∙ at_lf bytes (omega (arith, h, goes_on byte bytes other))
    ]

pub at_most : (bytes : List ℕ) → prefix_len is_other bytes ≤ length bytes
at_most [] = omega arith
at_most (byte ∷ bytes) =
    elim (cases_eq byte 10) [
      | inl lf ↦ omega (arith, stops byte bytes lf)
      | inr other ↦ omega (arith, goes_on byte bytes other, at_most bytes)
    ]

run_is : (v : List ℕ) → length v ≡ 64 → first_set (mask_l (map (λ x. eqb x 10) v)) 64 ≡ prefix_len is_other v
run_is v long =
    elim (cases_eq (mask_l (map (λ x. eqb x 10) v)) 0) [
      | inl none ↦ cond-true _ _ _ (eq-eqb _ _ none) ∙ sym (leading_from_mask_l (λ x. eqb x 10) v none ∙ long)
      | inr some ↦ cond-false _ _ _ (ne_eqb _ _ some) ∙ trailing_mask_l (λ x. eqb x 10) 64 v (omega arith) (omega arith)
    ]

-- what the bytes that are looked at together tell
pub record Told (piece : List ℕ) (at n : ℕ) : Type 0 where
  pub within : n ≤ 64
  pub no_lf : HasNoLf (take n (drop at piece))
  pub lf : n < 64 → get_or piece (at + n) 0 ≡ 10

pub told : (piece : List ℕ) (at r : ℕ) → at + 64 ≤ length piece
    → r ≡ first_set (mask_l (map (top 7) (zip2 (λ a b. cond (eqb a b) 255 0) (chunk at 64 piece) (replicate 64 10))) % 2 ^ 64) 64 → Told piece at r
told piece at r room found =
    let v = chunk at 64 piece in
    let long : length (chunk at 64 piece) ≡ 64 = length-chunk at 64 piece room in
    let counted : r ≡ prefix_len is_other (chunk at 64 piece) =
    found ∙ ap (λ m. first_set m 64) (bitmask_splat w8 eqb (chunk at 64 piece) 64 10 long (omega arith)) ∙ run_is (chunk at 64 piece) long in
    let most : r ≤ 64 = omega (arith, counted, at_most (chunk at 64 piece), long) in
    record {
      within = most;
      no_lf = subst HasNoLf (ap (λ n. take n (chunk at 64 piece)) (sym counted) ∙ take-take r 64 (drop at piece) most) (before_lf (chunk at 64 piece));
      lf = λ short.
          sym (get_or-chunk at 64 piece r 0 short)
          ∙ ap (λ n. get_or (chunk at 64 piece) n 0) counted
          ∙ at_lf (chunk at 64 piece) (omega (arith, short, counted, long));
    }

-- no line feed stands before one place, nor before another from there on
pub joined : (piece : List ℕ) (start n : ℕ) → HasNoLf (take start piece) → HasNoLf (take n (drop start piece)) → HasNoLf (take (start + n) piece)
joined piece start n a b = rw (take-add start n piece) (All-append (λ b. b ≢ 10) _ _ a b)

pub joined_whole : (piece : List ℕ) (start : ℕ) → HasNoLf (take start piece) → HasNoLf (drop start piece) → HasNoLf piece
joined_whole piece start a b = subst HasNoLf (take-append-drop start piece) (All-append (λ b. b ≢ 10) _ _ a b)

pub ruleset lf_free = (joined, joined_whole)

-- what a slice from `start` on holds
pub from_here : (piece : List ℕ) (start : ℕ) → take (length piece - start) (drop start piece) ≡ drop start piece
from_here piece start = take_all (length piece - start) (drop start piece) (rw length-drop (omega arith))
