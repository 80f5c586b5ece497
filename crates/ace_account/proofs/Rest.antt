-- What is left of a list from a place on, and text that is put piece by piece.
use Rattle.std.proofs.Common.{◌≡◌, ℕ, suc, zero, List, [], ◌∷◌, ◌+◌, ◌++◌, Option, Some, drop, slice_get, refl, sym, ap, subst, ◌∙◌, arith}
use Rattle.ace_report.specs.Put.{Puts, PutsPart}
use Rattle.ace_report.proofs.Puts.{part_next, puts_next}

rest_behind : {A : Type 0} (xs : List A) (i : ℕ) (x : A) → slice_get xs i ≡ Some x → drop i xs ≡ x ∷ drop (suc i) xs
rest_behind [] i x there = cc
rest_behind (y ∷ ys) zero x there = let same : y ≡ x = cc in ap (λ v. v ∷ ys) same
rest_behind (y ∷ ys) (suc i) x there = rest_behind ys i x there

-- the element at a place is the first of what is left from there on
pub rest_from : {A : Type 0} (xs : List A) (i : ℕ) (x : A) → slice_get xs i ≡ Some x → drop i xs ≡ x ∷ drop (i + 1) xs
rest_from xs i x there =
    let next : suc i ≡ i + 1 = omega arith in
    rest_behind xs i x there ∙ ap (λ n. x ∷ drop n xs) next

-- a piece was put behind what was put before it
pub piece_next : (h0 h1 h2 : Option (List ℕ)) (p0 p1 p2 text left next rest : List ℕ) → left ≡ next ++ rest → Puts h0 p0 text h1 p1 left → Puts h1 p1 next h2 p2 [] → Puts h0 p0 text h2 p2 rest
piece_next h0 h1 h2 p0 p1 p2 text left next rest is first piece = puts_next h0 h1 h2 p0 p1 p2 text next rest (subst (Puts h0 p0 text h1 p1) is first) piece

-- the sink failed in it
pub piece_failed : (h0 h1 h2 : Option (List ℕ)) (p0 p1 text left next rest : List ℕ) → left ≡ next ++ rest → Puts h0 p0 text h1 p1 left → PutsPart h1 p1 next h2 → PutsPart h0 p0 text h2
piece_failed h0 h1 h2 p0 p1 text left next rest is first piece = part_next h0 h1 h2 p0 p1 text next rest (subst (Puts h0 p0 text h1 p1) is first) piece
