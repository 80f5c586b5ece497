use Rattle.std.proofs.Common.{◌≡◌, ◌∙◌, ℕ, ◌+◌, ◌*◌, ◌%◌, ◌^◌, ◌<◌, List, [], ◌∷◌, ◌++◌, get_or, length, arith}
use Rattle.std.specs.Bool.{IsTrue}
use Rattle.ace_grammar.specs.Lanes.{are_entries, entries_onto}
use Rattle.ace_grammar.proofs.Digits.EntryLanes.{eight, first_entry}
use Rattle.ace_grammar.proofs.fields.pack_eight.Goals as goal

abbrev pair : List ℕ → ℕ → ℕ → ℕ
pair l k n = (get_or (l ++ l) k 0 * 16 % 256 + get_or (l ++ l) n 0) % 256

pair_is : (a b : ℕ) → a < 16 → b < 16 → (a * 16 % 256 + b) % 256 ≡ a * 16 + b
pair_is a b low_a low_b = omega arith

abbrev packed : List ℕ → ℕ
packed l = pair l 0 1 * 2 ^ 24 + pair l 2 3 * 2 ^ 16 + pair l 4 5 * 2 ^ 8 + pair l 6 7

packed_8 : (a b c d e f g h : ℕ) → IsTrue (are_entries (a ∷ b ∷ c ∷ d ∷ e ∷ f ∷ g ∷ h ∷ []))
    → packed (a ∷ b ∷ c ∷ d ∷ e ∷ f ∷ g ∷ h ∷ []) ≡ entries_onto 0 (a ∷ b ∷ c ∷ d ∷ e ∷ f ∷ g ∷ h ∷ [])
packed_8 a b c d e f g h told =
    let t0 = first_entry a (b ∷ c ∷ d ∷ e ∷ f ∷ g ∷ h ∷ []) told in
    let b0 : a < 16 = t0.0 in
    let t1 = first_entry b (c ∷ d ∷ e ∷ f ∷ g ∷ h ∷ []) t0.1 in
    let b1 : b < 16 = t1.0 in
    let t2 = first_entry c (d ∷ e ∷ f ∷ g ∷ h ∷ []) t1.1 in
    let b2 : c < 16 = t2.0 in
    let t3 = first_entry d (e ∷ f ∷ g ∷ h ∷ []) t2.1 in
    let b3 : d < 16 = t3.0 in
    let t4 = first_entry e (f ∷ g ∷ h ∷ []) t3.1 in
    let b4 : e < 16 = t4.0 in
    let t5 = first_entry f (g ∷ h ∷ []) t4.1 in
    let b5 : f < 16 = t5.0 in
    let t6 = first_entry g (h ∷ []) t5.1 in
    let b6 : g < 16 = t6.0 in
    let t7 = first_entry h [] t6.1 in
    let b7 : h < 16 = t7.0 in
    rw (pair_is a b b0 b1, pair_is c d b2 b3, pair_is e f b4 b5, pair_is g h b6 b7) (omega (arith, b0))

packed_is : (l : List ℕ) → length l ≡ 8 → IsTrue (are_entries l) → packed l ≡ entries_onto 0 l
packed_is = eight (λ l. IsTrue (are_entries l) → packed l ≡ entries_onto 0 l) packed_8

pub returns : goal.returns
returns c = c.from_be_bytes.ensures ∙ packed_is c.args.entries c.requires.len c.requires.digits
