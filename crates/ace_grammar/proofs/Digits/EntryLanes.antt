-- Digits side by side.
use Rattle.std.proofs.Common.{◌≡◌, ℕ, suc, ◌+◌, ◌*◌, ◌%◌, ◌^◌, ◌<◌, ◌≤◌, cond, eqb, leb, nat_lt, Bool, true, List, [], ◌∷◌, map, length, get_or, replicate, Fits, w8, Some, None, refl, sym, ap, ◌∙◌, arith, inl, inr}
use Rattle.std.proofs.lemmas.Bool.{cases_lt, cases_eq, and_parts, eq-eqb, ne_eqb, lt-ltb, le-ltb, le-leb, lt-leb, ltb-true}
use Rattle.std.proofs.lemmas.Simd.{mask_l-mod, tops_compared, zip2_splat_left}
use Rattle.std.proofs.lemmas.List.{length-map}
use Rattle.std.specs.Bool.{IsTrue}
use Rattle.std.specs.Option.{option_and_then}
use lib.Lanes.{zip2, mask_l, top, sel_l}
use Rattle.ace_grammar.specs.Fields.{digits_onto}
use Rattle.ace_grammar.proofs.Digits.Entries.{agrees_below, entry_of}
use Rattle.ace_grammar.specs.Lanes.{HaveEntries, are_entries, entries_onto}

of_maps : {V X : Type 0} (p : V → Bool) (g h : V → X) (vs : List V) → sel_l (map p vs) (map g vs) (map h vs) ≡ map (λ v. cond (p v) (g v) (h v)) vs
of_maps p g h [] = refl
of_maps p g h (v ∷ vs) = ap (λ l. cond (p v) (g v) (h v) ∷ l) (of_maps p g h vs)

pub sel_of_maps : {V X : Type 0} (p : V → Bool) (g h : V → X) (vs : List V) {ms : List Bool} {xs ys : List X}
    → ms ≡ map p vs → xs ≡ map g vs → ys ≡ map h vs → sel_l ms xs ys ≡ map (λ v. cond (p v) (g v) (h v)) vs
sel_of_maps p g h vs a b c = rw (a, b, c) (of_maps p g h vs)

have_map : (f : ℕ → ℕ) (bytes : List ℕ) → agrees_below f 256 ≡ true → ((k : ℕ) → Fits w8 (get_or bytes k 0)) → HaveEntries bytes (map f bytes)
have_map f [] h fits = tt
have_map f (byte ∷ bytes) h fits = (entry_of f byte (fits 0).fits h, have_map f bytes h (λ k. fits (suc k)))

pub have_entries : (f : ℕ → ℕ) (bytes : List ℕ) {entries : List ℕ} → entries ≡ map f bytes → agrees_below f 256 ≡ true → ((k : ℕ) → Fits w8 (get_or bytes k 0)) → HaveEntries bytes entries
have_entries f bytes is h fits = rw is (have_map f bytes h fits)

twice : (n : ℕ) → eqb (0 + 2 * n) 0 ≡ eqb n 0
twice n = elim (cases_eq n 0) [
  | inl none ↦ eq-eqb (0 + 2 * n) 0 (omega (arith, none)) ∙ sym (eq-eqb n 0 none)
  | inr some ↦ ne_eqb (0 + 2 * n) 0 (λ e. some (omega (arith, e))) ∙ sym (ne_eqb n 0 some)
]

-- no lane has a mark where all are digits
no_mark : (entries : List ℕ) → eqb (mask_l (map (λ e. leb 16 e) entries)) 0 ≡ are_entries entries
no_mark [] = refl
no_mark (entry ∷ entries) =
    elim (cases_lt entry 16) [
      | inl low ↦ rw (lt-leb 16 entry low, lt-ltb entry 16 low) (twice (mask_l (map (λ e. leb 16 e) entries)) ∙ no_mark entries)
      | inr high ↦ rw (le-leb 16 entry high, le-ltb entry 16 high) (ne_eqb _ 0 (λ e. omega (arith, e)))
    ]

pub all_entries : (count : ℕ) (entries : List ℕ) → length entries ≡ count → count ≤ 64
    → eqb (mask_l (map (top 7) (zip2 (λ a b. cond (leb a b) 255 0) (replicate count 16) entries)) % 2 ^ 64) 0 ≡ are_entries entries
all_entries count entries len few =
    let marks : map (top 7) (zip2 (λ a b. cond (leb a b) 255 0) (replicate count 16) entries) ≡ map (λ e. leb 16 e) entries =
    tops_compared w8 leb (replicate count 16) entries ∙ zip2_splat_left leb 16 count entries len in
    ap (λ l. eqb (mask_l l % 2 ^ 64) 0) marks
    ∙ ap (λ m. eqb m 0) (mask_l-mod (map (λ e. leb 16 e) entries) 64 (omega (arith, length-map {A = ℕ} {B = Bool}, len)))
    ∙ no_mark entries

-- the number of the bytes by what was looked up
pub onto_entries : (bytes entries : List ℕ) (number : ℕ) → HaveEntries bytes entries
    → digits_onto number bytes ≡ cond (are_entries entries) (Some (entries_onto number entries)) None
unfolding digits_onto
onto_entries [] [] number have = refl
onto_entries [] (entry ∷ entries) number have = absurd have
onto_entries (byte ∷ bytes) [] number have = absurd have
onto_entries (byte ∷ bytes) (entry ∷ entries) number have = ap (option_and_then (λ digit. digits_onto (number * 16 + digit) bytes)) have.0
    ∙ elim (cases_lt entry 16) [
      | inl low ↦ rw (lt-ltb entry 16 low) (onto_entries bytes entries (number * 16 + entry) have.1)
      | inr high ↦ rw (le-ltb entry 16 high) refl
    ]

-- a list of 16
pub sixteen : (P : List ℕ → Type 0)
    → ((a b c d e f g h i j k l m n o p : ℕ) → P (a ∷ b ∷ c ∷ d ∷ e ∷ f ∷ g ∷ h ∷ i ∷ j ∷ k ∷ l ∷ m ∷ n ∷ o ∷ p ∷ []))
    → (l : List ℕ) → length l ≡ 16 → P l
sixteen P of [] len = absurd (omega (arith, len))
sixteen P of (a ∷ []) len = absurd (omega (arith, len))
sixteen P of (a ∷ b ∷ []) len = absurd (omega (arith, len))
sixteen P of (a ∷ b ∷ c ∷ []) len = absurd (omega (arith, len))
sixteen P of (a ∷ b ∷ c ∷ d ∷ []) len = absurd (omega (arith, len))
sixteen P of (a ∷ b ∷ c ∷ d ∷ e ∷ []) len = absurd (omega (arith, len))
sixteen P of (a ∷ b ∷ c ∷ d ∷ e ∷ f ∷ []) len = absurd (omega (arith, len))
sixteen P of (a ∷ b ∷ c ∷ d ∷ e ∷ f ∷ g ∷ []) len = absurd (omega (arith, len))
sixteen P of (a ∷ b ∷ c ∷ d ∷ e ∷ f ∷ g ∷ h ∷ []) len = absurd (omega (arith, len))
sixteen P of (a ∷ b ∷ c ∷ d ∷ e ∷ f ∷ g ∷ h ∷ i ∷ []) len = absurd (omega (arith, len))
sixteen P of (a ∷ b ∷ c ∷ d ∷ e ∷ f ∷ g ∷ h ∷ i ∷ j ∷ []) len = absurd (omega (arith, len))
sixteen P of (a ∷ b ∷ c ∷ d ∷ e ∷ f ∷ g ∷ h ∷ i ∷ j ∷ k ∷ []) len = absurd (omega (arith, len))
sixteen P of (a ∷ b ∷ c ∷ d ∷ e ∷ f ∷ g ∷ h ∷ i ∷ j ∷ k ∷ l ∷ []) len = absurd (omega (arith, len))
sixteen P of (a ∷ b ∷ c ∷ d ∷ e ∷ f ∷ g ∷ h ∷ i ∷ j ∷ k ∷ l ∷ m ∷ []) len = absurd (omega (arith, len))
sixteen P of (a ∷ b ∷ c ∷ d ∷ e ∷ f ∷ g ∷ h ∷ i ∷ j ∷ k ∷ l ∷ m ∷ n ∷ []) len = absurd (omega (arith, len))
sixteen P of (a ∷ b ∷ c ∷ d ∷ e ∷ f ∷ g ∷ h ∷ i ∷ j ∷ k ∷ l ∷ m ∷ n ∷ o ∷ []) len = absurd (omega (arith, len))
sixteen P of (a ∷ b ∷ c ∷ d ∷ e ∷ f ∷ g ∷ h ∷ i ∷ j ∷ k ∷ l ∷ m ∷ n ∷ o ∷ p ∷ []) len = of a b c d e f g h i j k l m n o p
sixteen P of (a ∷ b ∷ c ∷ d ∷ e ∷ f ∷ g ∷ h ∷ i ∷ j ∷ k ∷ l ∷ m ∷ n ∷ o ∷ p ∷ q ∷ rest) len = absurd (omega (arith, len))

-- a list of eight
pub eight : (P : List ℕ → Type 0) → ((a b c d e f g h : ℕ) → P (a ∷ b ∷ c ∷ d ∷ e ∷ f ∷ g ∷ h ∷ [])) → (l : List ℕ) → length l ≡ 8 → P l
eight P of [] len = absurd (omega (arith, len))
eight P of (a ∷ []) len = absurd (omega (arith, len))
eight P of (a ∷ b ∷ []) len = absurd (omega (arith, len))
eight P of (a ∷ b ∷ c ∷ []) len = absurd (omega (arith, len))
eight P of (a ∷ b ∷ c ∷ d ∷ []) len = absurd (omega (arith, len))
eight P of (a ∷ b ∷ c ∷ d ∷ e ∷ []) len = absurd (omega (arith, len))
eight P of (a ∷ b ∷ c ∷ d ∷ e ∷ f ∷ []) len = absurd (omega (arith, len))
eight P of (a ∷ b ∷ c ∷ d ∷ e ∷ f ∷ g ∷ []) len = absurd (omega (arith, len))
eight P of (a ∷ b ∷ c ∷ d ∷ e ∷ f ∷ g ∷ h ∷ []) len = of a b c d e f g h
eight P of (a ∷ b ∷ c ∷ d ∷ e ∷ f ∷ g ∷ h ∷ i ∷ rest) len = absurd (omega (arith, len))

-- the first digit, and the others
pub first_entry : (entry : ℕ) (entries : List ℕ) → IsTrue (are_entries (entry ∷ entries)) → (entry < 16) × IsTrue (are_entries entries)
first_entry entry entries told =
    let parts = and_parts (nat_lt entry 16) (are_entries entries) told in
    (ltb-true entry 16 parts.0, parts.1)
