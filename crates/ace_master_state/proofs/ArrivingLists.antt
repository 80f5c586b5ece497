-- A line, and a word of a line, that is put in its place.
use Rattle.std.proofs.Common.{◌≡◌, ◌≢◌, ℕ, zero, suc, ◌<◌, List, [], ◌∷◌, length, ◌==◌, true, slice_get, slice_set, Some, unwrap_or, refl, ap, arith}
use Rattle.std.specs.List.{list_all}
use Rattle.std.proofs.lemmas.Bool.{and_parts, eqb-true}
use Rattle.ace_event.specs.declared.line.Line.{Line}
use Rattle.ace_model.specs.Copies.{zero_line}
use Rattle.ace_master_state.specs.Arriving.{line_under}

pub get-set : {A : Type 0} → (xs : List A) (i : ℕ) (v : A) → i < length xs → slice_get (slice_set xs i v) i ≡ Some v
get-set [] i v low = absurd (omega arith)
get-set (x ∷ xs) zero v low = refl
get-set (x ∷ xs) (suc i) v low = get-set xs i v (omega arith)

pub get-other : {A : Type 0} → (xs : List A) (i j : ℕ) (v : A) → j ≢ i → slice_get (slice_set xs i v) j ≡ slice_get xs j
get-other [] i j v apart = refl
get-other (x ∷ xs) zero zero v apart = absurd (apart refl)
get-other (x ∷ xs) zero (suc j) v apart = refl
get-other (x ∷ xs) (suc i) zero v apart = refl
get-other (x ∷ xs) (suc i) (suc j) v apart = get-other xs i j v (λ e. apart (omega arith))

pub under-set : (arriving : List Line) (i : ℕ) (line : Line) → i < length arriving → line_under (slice_set arriving i line) i ≡ line
under-set arriving i line low = ap (λ o. unwrap_or o zero_line) (get-set arriving i line low)

pub under-other : (arriving : List Line) (i j : ℕ) (line : Line) → j ≢ i → line_under (slice_set arriving i line) j ≡ line_under arriving j
under-other arriving i j line apart = ap (λ o. unwrap_or o zero_line) (get-other arriving i j line apart)

-- where each has four words, that under any identifier has
pub four-under : (lines : List Line) (i : ℕ) → list_all (λ (v : Line). length v.words == 4) lines ≡ true → length (line_under lines i).words ≡ 4
four-under [] i t = refl
four-under (v ∷ lines) zero t = eqb-true (length v.words) 4 (and_parts (length v.words == 4) _ t).0
four-under (v ∷ lines) (suc i) t = four-under lines i (and_parts (length v.words == 4) _ t).1
