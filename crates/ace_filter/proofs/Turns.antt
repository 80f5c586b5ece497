-- The queue of the lines that a port may lose, as one more begins and as the oldest ends.
use Rattle.std.proofs.Common.{◌≡◌, ◌≢◌, ℕ, ◌+◌, ◌≤◌, ◌<◌, List, [], ◌∷◌, ◌++◌, length, drop, get_or, Option, Some, None, slice_get, refl, sym, ap, ◌∙◌, arith, length-drop}
use Rattle.std.proofs.lemmas.List.{drop-append-le, drop_more}
use Rattle.std.proofs.lemmas.Option.{slice_get-get_or}
use Rattle.ace_model.proofs.General.Options.{Some-injective}
use Rattle.ace_filter.proofs.Terms.{LineTurn, turn_at, turns_from}

turns-push : (n k : ℕ) (xs : List (Option ℕ)) (o : Option ℕ) → k ≡ n + length xs → turns_from n (xs ++ o ∷ []) ≡ turns_from n xs ++ turn_at k o
turns-push n k [] None at = refl
turns-push n k [] (Some l) at = let same : n ≡ k = omega (arith, at) in ap (λ m. record { number = m; line = l } ∷ []) same
turns-push n k (None ∷ xs) o at = turns-push (n + 1) k xs o (omega (arith, at))
turns-push n k (Some l ∷ xs) o at = ap (λ rest. record { number = n; line = l } ∷ rest) (turns-push (n + 1) k xs o (omega (arith, at)))

-- one more begins
pub turns-begin : (all : List (Option ℕ)) (done : ℕ) (o : Option ℕ) → done ≤ length all
    → turns_from done (drop done (all ++ o ∷ [])) ≡ turns_from done (drop done all) ++ turn_at (length all) o
turns-begin all done o within =
    let left = length-drop done all in
    ap (turns_from done) (drop-append-le done all (o ∷ []) within) ∙ turns-push done (length all) (drop done all) o (omega (arith, left, within))

-- the numbers are at least that of the first
turns-high : (n : ℕ) (xs : List (Option ℕ)) (t : LineTurn) → slice_get (turns_from n xs) 0 ≡ Some t → n ≤ t.number
turns-high n [] t is = cc
turns-high n (None ∷ xs) t is = let low = turns-high (n + 1) xs t is in omega (arith, low)
turns-high n (Some l ∷ xs) t is = let first : n ≡ t.number = ap (λ (v : LineTurn). v.number) (Some-injective _ t is) in omega (arith, first)

-- The oldest ends: what it is, and what is left.
pub record Ending (all : List (Option ℕ)) (done : ℕ) (result : Option ℕ) (left : List LineTurn) : Type 0 where
  pub is : slice_get all done ≡ Some result
  pub rest : left ≡ turns_from (done + 1) (drop (done + 1) all)

module _ (all : List (Option ℕ)) (done : ℕ) (within : done < length all) where
  -- by what the oldest is
  ending : (queue : List LineTurn) → queue ≡ turns_from done (drop done all) → (o : Option ℕ) → get_or all done None ≡ o
      → (slice_get all done ≡ Some o) × (queue ≡ turns_from done (o ∷ drop (done + 1) all))
  ending queue is o one = (
    slice_get-get_or all done None within ∙ ap Some one,
    is ∙ ap (turns_from done) (drop_more all done None within) ∙ ap (λ v. turns_from done (v ∷ drop (done + 1) all)) one,
  )

  -- the first of the queue has its number
  pub ends-first : (queue : List LineTurn) (t : LineTurn) → queue ≡ turns_from done (drop done all) → slice_get queue 0 ≡ Some t → t.number ≡ done
      → Ending all done (Some t.line) (drop 1 queue)
  ends-first queue t is first number = by (get_or all done None) refl
    where
      by : (o : Option ℕ) → get_or all done None ≡ o → Ending all done (Some t.line) (drop 1 queue)
      by None one =
          let there = ending queue is None one in
          let high = turns-high (done + 1) (drop (done + 1) all) t (ap (λ v. slice_get v 0) (sym there.1) ∙ first) in
          absurd (omega (arith, high, number))
      by (Some l) one =
          let there = ending queue is (Some l) one in
          let same : l ≡ t.line = ap (λ (v : LineTurn). v.line) (Some-injective _ t (ap (λ v. slice_get v 0) (sym there.1) ∙ first)) in
          record { is = there.0 ∙ ap (λ v. Some (Some v)) same; rest = ap (drop 1) there.1 }

  -- or it hasn't
  pub ends-none : (queue : List LineTurn) → queue ≡ turns_from done (drop done all) → ((t : LineTurn) → slice_get queue 0 ≡ Some t → t.number ≢ done)
      → Ending all done None queue
  ends-none queue is other = by (get_or all done None) refl
    where
      by : (o : Option ℕ) → get_or all done None ≡ o → Ending all done None queue
      by None one = let there = ending queue is None one in record { is = there.0; rest = there.1 }
      by (Some l) one =
          let there = ending queue is (Some l) one in
          absurd (other (record { number = done; line = l }) (ap (λ v. slice_get v 0) there.1) refl)
