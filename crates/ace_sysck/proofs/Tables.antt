-- A list with a value set at a place.
use Rattle.std.proofs.Common.{◌≡◌, ℕ, zero, suc, ◌*◌, ◌<◌, ◌&&◌, nat_eq, if◌then◌else◌, List, [], ◌∷◌, length, replicate, get_or, slice_get, slice_set, Some, refl, sym, ap, subst, ◌∙◌, arith, inl, inr}
use Rattle.std.proofs.lemmas.Bool.{cases_eq, eq-eqb, ne_eqb}
use Rattle.std.proofs.lemmas.List.{get_or-set_same, get_or-set_other}
use Rattle.ace_sysck.proofs.Terms.{slot_of}

-- the place has the value, and each other place what it had
pub set_at : {A : Type 0} → (xs : List A) (k n : ℕ) (v d : A) → k < length xs
    → get_or (slice_set xs k v) n d ≡ (if nat_eq k n then v else get_or xs n d)
set_at xs k n v d low =
    elim (cases_eq k n) [
      | inl is ↦ rw (eq-eqb k n is) (ap (λ m. get_or (slice_set xs k v) m d) (sym is) ∙ get_or-set_same xs k v d low)
      | inr off ↦ rw (ne_eqb k n off) (get_or-set_other xs k n v d (λ q. off (sym q)))
    ]

-- what holds after of each entry of a table in which one is set: the new one, and what others were
pub entries_set : {A : Type 0} (P Q : ℕ → A → Type 0) (xs ys : List A) (q n : ℕ) (v d : A) → length xs ≡ n → q < n → ys ≡ slice_set xs q v → Q q v
    → ((p : ℕ) (b : A) → (q ≡ p → ⊥) → P p b → Q p b) → (p : ℕ) → P p (get_or xs p d) → Q p (get_or ys p d)
entries_set P Q xs ys q n v d size within items new others p was =
    let at : get_or ys p d ≡ (if nat_eq q p then v else get_or xs p d) = ap (λ l. get_or l p d) items ∙ set_at xs q p v d (omega (arith, size, within)) in
    elim (cases_eq q p) [
      | inl same ↦ subst (Q p) (sym (at ∙ rw (eq-eqb q p same) refl)) (subst (λ m. Q m v) same new)
      | inr off ↦ subst (Q p) (sym (at ∙ rw (ne_eqb q p off) refl)) (others p (get_or xs p d) off was)
    ]

-- two places of a table of names are one where port and identifier are
pub same_slot : (q j p i : ℕ) → j < 256 → i < 256 → nat_eq (slot_of q j) (slot_of p i) ≡ (nat_eq q p && nat_eq j i)
same_slot q j p i low_j low_i =
    elim (cases_eq q p) [
      | inl port ↦ elim (cases_eq j i) [
        | inl id ↦ rw (eq-eqb q p port, eq-eqb j i id) (eq-eqb (slot_of q j) (slot_of p i) (omega arith))
        | inr off ↦ rw (eq-eqb q p port, ne_eqb j i off) (ne_eqb (slot_of q j) (slot_of p i) (λ s. off (omega arith)))
      ]
      | inr off ↦ rw (ne_eqb q p off) (ne_eqb (slot_of q j) (slot_of p i) (λ s. off (omega arith)))
    ]

-- a name of a port of the header has a place
pub slot_within : (q j ports n : ℕ) → j < 256 → q < ports → n ≡ ports * 256 → slot_of q j < n
slot_within q j ports n low within size = omega arith

-- a list of one value repeated has it at each place, and past its end
pub repeated : {A : Type 0} → (n p : ℕ) (d : A) → get_or (replicate n d) p d ≡ d
repeated zero p d = refl
repeated (suc n) zero d = refl
repeated (suc n) (suc p) d = repeated n p d

-- the same by look-ups
pub slice_get-set_same : {A : Type 0} → (xs : List A) (i : ℕ) (y : A) → i < length xs → slice_get (slice_set xs i y) i ≡ Some y
slice_get-set_same [] i y b = absurd (omega arith)
slice_get-set_same (x ∷ xs) zero y b = refl
slice_get-set_same (x ∷ xs) (suc i) y b = slice_get-set_same xs i y (omega arith)

pub slice_get-set_other : {A : Type 0} → (xs : List A) (i j : ℕ) (y : A) → (j ≡ i → ⊥) → slice_get (slice_set xs i y) j ≡ slice_get xs j
slice_get-set_other [] i j y n = refl
slice_get-set_other (x ∷ xs) zero zero y n = absurd (n refl)
slice_get-set_other (x ∷ xs) zero (suc j) y n = refl
slice_get-set_other (x ∷ xs) (suc i) zero y n = refl
slice_get-set_other (x ∷ xs) (suc i) (suc j) y n = slice_get-set_other xs i j y (λ e. n (omega (arith, e)))
