-- Stores of a whole line, and lines by their words.
use Rattle.std.proofs.Common.{◌≡◌, ℕ, zero, Option, Some, None, suc, ◌+◌, ◌-◌, ◌*◌, ◌/◌, ◌%◌, ◌^◌, ◌<◌, ◌&&◌, true, nat_eq, List, [], ◌∷◌, length, refl, sym, ap, ◌∙◌, arith, inl, inr, slice_get, slice_index, get_or, unwrap_or}
use Rattle.std.proofs.lemmas.Bool.{and_parts, cases_Bool, eqb-true}
use Rattle.std.proofs.Math.Nat.{pow-suc, div-div-eq-div-mul, div-eq_of_lt}
use Rattle.std.specs.Int.{byte_at}
use Rattle.std.specs.List.{AllByRecursion}
use Rattle.ace_model.proofs.Terms.{Event, FitsFields, IsLine, IsWord, M, Mem, opened, is_some_on, transaction_of, memory_of, Line, Trace, Store, value_of, after_store, store_at, number_of_bytes, merged, word_of, same_line, full_line, Beat, burst_strobe, full_beat}
use Rattle.std.proofs.lemmas.Option.{slice_get-get_or}

-- a store of all bytes leaves nothing of the line before
pub merged-whole : (a c bytes : Line) → merged a full_line bytes ≡ merged c full_line bytes
unfolding merged number_of_bytes
merged-whole a c bytes = refl

pub merged-same : (a c bytes : Line) (strobe : ℕ) → strobe ≡ full_line → merged a strobe bytes ≡ merged c strobe bytes
merged-same a c bytes strobe whole = rw whole (merged-whole a c bytes)

low_byte : (i n : ℕ) → byte_at i n ≡ n / 256 ^ i % 256
low_byte zero n = omega arith
low_byte (suc i) n = refl

-- the first bytes of a word
digits : (w n i : ℕ) → i + n ≡ 16 → w < 2 ^ 128 → number_of_bytes (λ j. byte_at (15 - j) w) n ≡ w / 256 ^ i
unfolding number_of_bytes
digits w zero i e small = let at : i ≡ 16 = omega arith in rw at (sym (div-eq_of_lt {n = w} {m = 256 ^ 16} small))
digits w (suc m) i e small =
    let before = digits w m (suc i) (omega arith) small in
    let place : 15 - m ≡ i = omega arith in
    let q = w / 256 ^ i in
    let high : w / 256 ^ suc i ≡ q / 256 = ap (λ d. w / d) (pow-suc 256 i) ∙ sym (div-div-eq-div-mul w (256 ^ i) 256) in
    ap (λ n. n * 256 + byte_at (15 - m) w) (before ∙ high) ∙ ap (λ n. q / 256 * 256 + n) (ap (λ p. byte_at p w) place ∙ low_byte i w) ∙ back q
  where
    back : (q : ℕ) → q / 256 * 256 + q % 256 ≡ q
    back q = omega arith

-- the line of these words
abbrev pub line_of : ℕ → ℕ → ℕ → ℕ → Line
line_of a b c d = record { words = a ∷ b ∷ c ∷ d ∷ [] }

merged-all : (a : Line) (w x y z : ℕ) → w < 2 ^ 128 → x < 2 ^ 128 → y < 2 ^ 128 → z < 2 ^ 128
    → merged a full_line (line_of w x y z) ≡ line_of w x y z
unfolding merged number_of_bytes
merged-all a w x y z lw lx ly lz =
    let one : (v : ℕ) → v < 2 ^ 128 → number_of_bytes (λ j. byte_at (15 - j) v) 16 ≡ v = λ v l. digits v 16 0 refl l ∙ whole v in
    four (one w lw) (one x lx) (one y ly) (one z lz)
  where
    whole : (v : ℕ) → v / 256 ^ 0 ≡ v
    whole v = omega arith

    four : {a b c d w x y z : ℕ} → a ≡ w → b ≡ x → c ≡ y → d ≡ z → line_of a b c d ≡ line_of w x y z
    four p q r s = cc

-- a line of four words, each of sixteen bytes, stored whole
pub merged-line : (a line : Line) → IsLine line → merged a full_line line ≡ line
merged-line a line r = by line.words r.0 r.1
  where
    by : (ws : List ℕ) → length ws ≡ 4 → AllByRecursion IsWord ws → merged a full_line (record { words = ws }) ≡ record { words = ws }
    by (w ∷ x ∷ y ∷ z ∷ []) four low = merged-all a w x y z low.0 low.1.0 low.1.1.0 low.1.1.1.0
    by ws four _ = absurd (omega arith)

-- memory of a line has four words of sixteen bytes
pub memory-line : (past : Trace) → AllByRecursion FitsFields past → (l : ℕ) → IsLine (memory_of past l)
memory-line [] r l = (refl, (omega arith, (omega arith, (omega arith, (omega arith, tt)))))
memory-line (M q c j line ∷ past) r l =
    elim (cases_Bool (is_some_on (transaction_of past q c j) l)) [
      | inl t ↦ rw t r.0
      | inr f ↦ rw f (memory-line past r.1 l)
    ]
memory-line (Mem addr line ∷ past) r l =
    elim (cases_Bool (nat_eq l addr)) [
      | inl t ↦ rw t r.0
      | inr f ↦ rw f (memory-line past r.1 l)
    ]
memory-line (_ ∷ past) r l = memory-line past r.1 l

-- a line after a store has four words
pub merged-length : (a : Line) (strobe : ℕ) (bytes : Line) → length (merged a strobe bytes).words ≡ 4
unfolding merged
merged-length a strobe bytes = refl

-- the value of a line has four words
pub value-length : (past : Trace) (l : ℕ) → AllByRecursion FitsFields past → length (value_of past l).words ≡ 4
value-length [] l r = refl
value-length (e ∷ past) l r = by (store_at past e l) (unwrap_or (opened e l) (value_of past l)) (begins e r.0 (value-length past l r.1))
  where
    begins : (e : Event) → FitsFields e → length (value_of past l).words ≡ 4 → length (unwrap_or (opened e l) (value_of past l)).words ≡ 4
    begins (Mem addr line) fits n =
        elim (cases_Bool (nat_eq l addr)) [
          | inl t ↦ rw t fits.0
          | inr f ↦ rw f n
        ]
    begins e fits n = n

    by : (o : Option Store) (v : Line) → length v.words ≡ 4 → length (after_store v o).words ≡ 4
    by None v n = n
    by (Some s) v n = merged-length v s.strobe s.line

four_words : (xs ys : List ℕ) → length xs ≡ 4 → length ys ≡ 4
    → word_of (record { words = xs }) 0 ≡ word_of (record { words = ys }) 0 → word_of (record { words = xs }) 1 ≡ word_of (record { words = ys }) 1
    → word_of (record { words = xs }) 2 ≡ word_of (record { words = ys }) 2 → word_of (record { words = xs }) 3 ≡ word_of (record { words = ys }) 3 → xs ≡ ys
four_words (a ∷ b ∷ c ∷ d ∷ []) (w ∷ x ∷ y ∷ z ∷ []) m n e f g i = join e f g i
  where
    join : {a b c d w x y z : ℕ} → a ≡ w → b ≡ x → c ≡ y → d ≡ z → ◌≡◌ {A = List ℕ} (a ∷ b ∷ c ∷ d ∷ []) (w ∷ x ∷ y ∷ z ∷ [])
    join p q r s = cc
four_words xs ys m n _ _ _ _ = absurd (omega arith)

-- lines of four words that have the same words
pub lines_by_words : (a b : Line) → length a.words ≡ 4 → length b.words ≡ 4 → word_of a 0 ≡ word_of b 0 → word_of a 1 ≡ word_of b 1
    → word_of a 2 ≡ word_of b 2 → word_of a 3 ≡ word_of b 3 → a ≡ b
lines_by_words a b m n e f g i = ap (λ ws. record { words = ws }) (four_words a.words b.words m n e f g i)

pub same_line-is : (a b : Line) → length a.words ≡ 4 → length b.words ≡ 4 → same_line a b ≡ true → a ≡ b
same_line-is a b m n e =
    let all = and_parts ((nat_eq (word_of a 0) (word_of b 0) && nat_eq (word_of a 1) (word_of b 1)) && nat_eq (word_of a 2) (word_of b 2)) _ e in
    let three = and_parts (nat_eq (word_of a 0) (word_of b 0) && nat_eq (word_of a 1) (word_of b 1)) _ all.0 in
    let two = and_parts (nat_eq (word_of a 0) (word_of b 0)) _ three.0 in
    lines_by_words a b m n (eqb-true _ _ two.0) (eqb-true _ _ two.1) (eqb-true _ _ three.1) (eqb-true _ _ all.1)

-- the words of a whole burst are the line
pub whole_line : (ws : List ℕ) (line : Line) → length ws ≡ 4 → length line.words ≡ 4 → ((n w : ℕ) → slice_get ws n ≡ Some w → w ≡ word_of line n) → record { words = ws } ≡ line
whole_line ws line m n each =
    lines_by_words (record { words = ws }) line m n (one 0 (omega arith)) (one 1 (omega arith)) (one 2 (omega arith)) (one 3 (omega arith))
  where
    one : (k : ℕ) → k < length ws → slice_index ws k ≡ word_of line k
    one k low = each k (get_or ws k 0) (slice_get-get_or ws k 0 low)

-- four strobes of all bytes are the strobe of the whole line
pub full_burst : (b0 b1 b2 b3 : Beat) → b0.strobe ≡ full_beat → b1.strobe ≡ full_beat → b2.strobe ≡ full_beat → b3.strobe ≡ full_beat
    → burst_strobe (b0 ∷ b1 ∷ b2 ∷ b3 ∷ []) ≡ full_line
full_burst b0 b1 b2 b3 e0 e1 e2 e3 = joined b0.strobe b1.strobe b2.strobe b3.strobe e0 e1 e2 e3
  where
    joined : (s t u v : ℕ) → s ≡ full_beat → t ≡ full_beat → u ≡ full_beat → v ≡ full_beat → s + 65536 * (t + 65536 * (u + 65536 * (v + 65536 * 0))) ≡ full_line
    joined s t u v e0 e1 e2 e3 = rw (e0, e1, e2, e3) refl
