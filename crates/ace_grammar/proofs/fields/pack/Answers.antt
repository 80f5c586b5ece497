use Rattle.std.proofs.Common.{◌≡◌, ◌∙◌, ℕ, ◌+◌, ◌*◌, ◌%◌, ◌^◌, ◌<◌, List, [], ◌∷◌, ◌++◌, get_or, length, arith}
use Rattle.std.specs.Bool.{IsTrue}
use Rattle.ace_grammar.specs.Lanes.{are_entries, entries_onto}
use Rattle.ace_grammar.proofs.Digits.EntryLanes.{sixteen, first_entry}
use Rattle.ace_grammar.proofs.fields.pack.Goals as goal

abbrev pair : List ℕ → ℕ → ℕ → ℕ
pair l k n = (get_or (l ++ l) k 0 * 16 % 256 + get_or (l ++ l) n 0) % 256

pair_is : (a b : ℕ) → a < 16 → b < 16 → (a * 16 % 256 + b) % 256 ≡ a * 16 + b
pair_is a b low_a low_b = omega arith

abbrev packed : List ℕ → ℕ
packed l =
    pair l 0 1 * 2 ^ 56 + pair l 2 3 * 2 ^ 48 + pair l 4 5 * 2 ^ 40 + pair l 6 7 * 2 ^ 32 + pair l 8 9 * 2 ^ 24 + pair l 10 11 * 2 ^ 16 + pair l 12 13 * 2 ^ 8 + pair l 14 15

packed_16 : (a b c d e f g h i j k l m n o p : ℕ) → IsTrue (are_entries (a ∷ b ∷ c ∷ d ∷ e ∷ f ∷ g ∷ h ∷ i ∷ j ∷ k ∷ l ∷ m ∷ n ∷ o ∷ p ∷ [])) → packed (a ∷ b ∷ c ∷ d ∷ e ∷ f ∷ g ∷ h ∷ i ∷ j ∷ k ∷ l ∷ m ∷ n ∷ o ∷ p ∷ []) ≡ entries_onto 0 (a ∷ b ∷ c ∷ d ∷ e ∷ f ∷ g ∷ h ∷ i ∷ j ∷ k ∷ l ∷ m ∷ n ∷ o ∷ p ∷ [])
packed_16 a b c d e f g h i j k l m n o p told =
    let t0 = first_entry a (b ∷ c ∷ d ∷ e ∷ f ∷ g ∷ h ∷ i ∷ j ∷ k ∷ l ∷ m ∷ n ∷ o ∷ p ∷ []) told in
    let b0 : a < 16 = t0.0 in
    let t1 = first_entry b (c ∷ d ∷ e ∷ f ∷ g ∷ h ∷ i ∷ j ∷ k ∷ l ∷ m ∷ n ∷ o ∷ p ∷ []) t0.1 in
    let b1 : b < 16 = t1.0 in
    let t2 = first_entry c (d ∷ e ∷ f ∷ g ∷ h ∷ i ∷ j ∷ k ∷ l ∷ m ∷ n ∷ o ∷ p ∷ []) t1.1 in
    let b2 : c < 16 = t2.0 in
    let t3 = first_entry d (e ∷ f ∷ g ∷ h ∷ i ∷ j ∷ k ∷ l ∷ m ∷ n ∷ o ∷ p ∷ []) t2.1 in
    let b3 : d < 16 = t3.0 in
    let t4 = first_entry e (f ∷ g ∷ h ∷ i ∷ j ∷ k ∷ l ∷ m ∷ n ∷ o ∷ p ∷ []) t3.1 in
    let b4 : e < 16 = t4.0 in
    let t5 = first_entry f (g ∷ h ∷ i ∷ j ∷ k ∷ l ∷ m ∷ n ∷ o ∷ p ∷ []) t4.1 in
    let b5 : f < 16 = t5.0 in
    let t6 = first_entry g (h ∷ i ∷ j ∷ k ∷ l ∷ m ∷ n ∷ o ∷ p ∷ []) t5.1 in
    let b6 : g < 16 = t6.0 in
    let t7 = first_entry h (i ∷ j ∷ k ∷ l ∷ m ∷ n ∷ o ∷ p ∷ []) t6.1 in
    let b7 : h < 16 = t7.0 in
    let t8 = first_entry i (j ∷ k ∷ l ∷ m ∷ n ∷ o ∷ p ∷ []) t7.1 in
    let b8 : i < 16 = t8.0 in
    let t9 = first_entry j (k ∷ l ∷ m ∷ n ∷ o ∷ p ∷ []) t8.1 in
    let b9 : j < 16 = t9.0 in
    let t10 = first_entry k (l ∷ m ∷ n ∷ o ∷ p ∷ []) t9.1 in
    let b10 : k < 16 = t10.0 in
    let t11 = first_entry l (m ∷ n ∷ o ∷ p ∷ []) t10.1 in
    let b11 : l < 16 = t11.0 in
    let t12 = first_entry m (n ∷ o ∷ p ∷ []) t11.1 in
    let b12 : m < 16 = t12.0 in
    let t13 = first_entry n (o ∷ p ∷ []) t12.1 in
    let b13 : n < 16 = t13.0 in
    let t14 = first_entry o (p ∷ []) t13.1 in
    let b14 : o < 16 = t14.0 in
    let t15 = first_entry p [] t14.1 in
    let b15 : p < 16 = t15.0 in
    rw (pair_is a b b0 b1, pair_is c d b2 b3, pair_is e f b4 b5, pair_is g h b6 b7, pair_is i j b8 b9, pair_is k l b10 b11, pair_is m n b12 b13, pair_is o p b14 b15) (omega (arith, b0))

packed_is : (l : List ℕ) → length l ≡ 16 → IsTrue (are_entries l) → packed l ≡ entries_onto 0 l
packed_is = sixteen (λ l. IsTrue (are_entries l) → packed l ≡ entries_onto 0 l) packed_16

pub returns : goal.returns
returns c = c.from_be_bytes.ensures ∙ packed_is c.args.entries c.requires.len c.requires.digits
