-- The words of a line after stores of words.
use Rattle.std.proofs.Common.{◌≡◌, ℕ, zero, suc, ◌≤◌, Bool, true, false, ◌&&◌, ◌==◌, if◌then◌else◌, List, [], ◌∷◌, length, refl, sym, ap, subst, ◌∙◌, arith}
use Rattle.std.specs.List.{AllByRecursion}
use Rattle.ace_event.specs.Bytes.{merged, number_of_bytes}
use Rattle.ace_event.specs.Range.{IsLine, IsWord}
use Rattle.ace_event.specs.declared.event.Outcome.{Outcome}
use Rattle.ace_event.specs.declared.line.Line.{Line}
use Rattle.ace_model.specs.Copies.{word_of, zero_line}
use Rattle.ace_model.specs.Values.{full_line}
use Rattle.ace_model.specs.declared.plans.Op.{Op}
use Rattle.ace_model.specs.declared.plans.Op.TheVariants.{St, Stx}
use Rattle.ace_model.proofs.Values.MergedLines.{merged-length, merged-line}
use Rattle.ace_runs.specs.Acts.{word_line, word_strobe}
use Rattle.ace_history.specs.declared.entry.Entry.{Entry}
use Rattle.ace_history.specs.Stored.{FitsStore, is_ok, line_after, line_by, word_after, word_by, word_stored}

four : (P : ℕ → Type 0) (k : ℕ) → k ≤ 3 → P 0 → P 1 → P 2 → P 3 → P k
four P zero low a b c d = a
four P (suc zero) low a b c d = b
four P (suc (suc zero)) low a b c d = c
four P (suc (suc (suc zero))) low a b c d = d
four P (suc (suc (suc (suc k)))) low a b c d = absurd (omega arith)

-- of each word either all bytes are stored, or none
whole-words : (a b : Line) (w k : ℕ) → w ≤ 3 → k ≤ 3
    → word_of (merged a (word_strobe w) b) k ≡ (if k == w then word_of (merged a full_line b) k else word_of (merged a full_line a) k)
unfolding merged number_of_bytes
whole-words a b w k low small =
    four (λ w. word_of (merged a (word_strobe w) b) k ≡ (if k == w then word_of (merged a full_line b) k else word_of (merged a full_line a) k)) w low
    (four (λ k. word_of (merged a (word_strobe 0) b) k
    ≡ (if k == 0 then word_of (merged a full_line b) k else word_of (merged a full_line a) k)) k small refl refl refl refl)
    (four (λ k. word_of (merged a (word_strobe 1) b) k
    ≡ (if k == 1 then word_of (merged a full_line b) k else word_of (merged a full_line a) k)) k small refl refl refl refl)
    (four (λ k. word_of (merged a (word_strobe 2) b) k
    ≡ (if k == 2 then word_of (merged a full_line b) k else word_of (merged a full_line a) k)) k small refl refl refl refl)
    (four (λ k. word_of (merged a (word_strobe 3) b) k
    ≡ (if k == 3 then word_of (merged a full_line b) k else word_of (merged a full_line a) k)) k small refl refl refl refl)

merged-words : (a b : Line) (w k : ℕ) → IsLine a → IsLine b → w ≤ 3 → k ≤ 3
    → word_of (merged a (word_strobe w) b) k ≡ (if k == w then word_of b k else word_of a k)
merged-words a b w k la lb low small =
    whole-words a b w k low small
    ∙ ap (λ l. if k == w then word_of l k else word_of (merged a full_line a) k) (merged-line a b lb)
    ∙ ap (λ l. if k == w then word_of b k else word_of l k) (merged-line a a la)

word-of-line : (w word k : ℕ) → k ≤ 3 → word_of (word_line w word) k ≡ (if k == w then word else 0)
word-of-line w word k small = four (λ k. word_of (word_line w word) k ≡ (if k == w then word else 0)) k small refl refl refl refl

either-word : (b : Bool) (word : ℕ) → IsWord word → IsWord (if b then word else 0)
either-word true word fits = fits
either-word false word fits = omega arith

line-of-word : (w word : ℕ) → IsWord word → IsLine (word_line w word)
line-of-word w word fits =
    (refl, (either-word (0 == w) word fits, (either-word (1 == w) word fits, (either-word (2 == w) word fits, (either-word (3 == w) word fits, tt)))))

-- a line of four words that fit
four-fit : (l : Line) → length l.words ≡ 4 → ((k : ℕ) → k ≤ 3 → IsWord (word_of l k)) → IsLine l
four-fit l four each = (four, by l.words four each)
  where
    by : (ws : List ℕ) → length ws ≡ 4 → ((k : ℕ) → k ≤ 3 → IsWord (word_of (record { words = ws }) k)) → AllByRecursion IsWord ws
    by (a ∷ b ∷ c ∷ d ∷ []) e each = (each 0 (omega arith), (each 1 (omega arith), (each 2 (omega arith), (each 3 (omega arith), tt))))
    by ws e each = absurd (omega arith)

fit-word : (l : Line) (k : ℕ) → IsLine l → k ≤ 3 → IsWord (word_of l k)
fit-word l k line small = by l.words line.0 line.1
  where
    by : (ws : List ℕ) → length ws ≡ 4 → AllByRecursion IsWord ws → IsWord (word_of (record { words = ws }) k)
    by (a ∷ b ∷ c ∷ d ∷ []) e f = four (λ k. IsWord (word_of (record { words = a ∷ b ∷ c ∷ d ∷ [] }) k)) k small f.0 f.1.0 f.1.1.0 f.1.1.1.0
    by ws e f = absurd (omega arith)

choose-word : (b : Bool) (x y : ℕ) → IsWord x → IsWord y → IsWord (if b then x else y)
choose-word true x y p q = p
choose-word false x y p q = q

merged-is-line : (a b : Line) (w : ℕ) → IsLine a → IsLine b → w ≤ 3 → IsLine (merged a (word_strobe w) b)
merged-is-line a b w la lb low =
    four-fit (merged a (word_strobe w) b) (merged-length a (word_strobe w) b)
    (λ k small. subst IsWord
    (sym (merged-words a b w k la lb low small)) (choose-word (k == w) (word_of b k) (word_of a k) (fit-word b k lb small) (fit-word a k la small)))

-- ---- a store of a word -------------------------------------------------------------------------------

-- the line and its word after a store, if there is one
stored-line : (stores : Bool) (line : Line) (w word : ℕ) → IsLine line → w ≤ 3 → IsWord word → IsLine (word_stored stores line w word)
stored-line true line w word fits low small = merged-is-line line (word_line w word) w fits (line-of-word w word small) low
stored-line false line w word fits low small = fits

stored-word : (stores : Bool) (line : Line) (w word k : ℕ) → IsLine line → w ≤ 3 → IsWord word → k ≤ 3
    → word_of (word_stored stores line w word) k ≡ (if stores && (k == w) then word else word_of line k)
stored-word false line w word k fits low small in-line = refl
stored-word true line w word k fits low small in-line =
    merged-words line (word_line w word) w k fits (line-of-word w word small) low in-line
    ∙ ap (λ x. if k == w then x else word_of line k) (word-of-line w word k in-line) ∙ twice (k == w) word 0 (word_of line k)
  where
    twice : (b : Bool) (x y z : ℕ) → (if b then (if b then x else y) else z) ≡ (if b then x else z)
    twice true x y z = refl
    twice false x y z = refl

by-line : (a : ℕ) (op : Op) (res : Outcome) (line : Line) → IsLine line → FitsStore op → IsLine (line_by a op res line)
by-line a (St b w word) res line fits f = stored-line (a == b) line w word fits f.0 f.1
by-line a (Stx b w word) res line fits f = stored-line (is_ok res && (a == b)) line w word fits f.0 f.1
by-line a op res line fits f = fits

by-word : (a k : ℕ) (op : Op) (res : Outcome) (line : Line) → IsLine line → FitsStore op → k ≤ 3 → word_of (line_by a op res line) k
    ≡ word_by a k op res (word_of line k)
by-word a k (St b w word) res line fits f small = stored-word (a == b) line w word k fits f.0 f.1 small
by-word a k (Stx b w word) res line fits f small = stored-word (is_ok res && (a == b)) line w word k fits f.0 f.1 small
by-word a k op res line fits f small = refl

after-words : (h : List Entry) (a k : ℕ) (line : Line) → IsLine line → k ≤ 3 → AllByRecursion (λ (e : Entry). FitsStore e.op) h
    → word_of (line_after a line h) k ≡ word_after a k (word_of line k) h
after-words [] a k line fits small all = refl
after-words (e ∷ h) a k line fits small all =
    after-words h a k (line_by a e.op e.res line) (by-line a e.op e.res line fits all.0) small all.1
    ∙ ap (λ v. word_after a k v h) (by-word a k e.op e.res line fits all.0 small)

pub word-left : (h : List Entry) (a k : ℕ) → k ≤ 3 → AllByRecursion (λ (e : Entry). FitsStore e.op) h → word_of (line_after a zero_line h) k
    ≡ word_after a k 0 h
word-left h a k small all = after-words h a k zero_line (refl, (omega arith, (omega arith, (omega arith, (omega arith, tt))))) small all
    ∙ ap (λ v. word_after a k v h) (zero-word k small)
  where
    zero-word : (k : ℕ) → k ≤ 3 → word_of zero_line k ≡ 0
    zero-word k small = four (λ k. word_of zero_line k ≡ 0) k small refl refl refl refl
