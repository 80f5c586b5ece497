-- What the entries of a history store, the oldest first, and what the lines hold after them.
use Rattle.std.specs.Prelude.{ℕ, ◌≡◌, ◌≤◌, ⊤, Bool, true, false, ◌&&◌, ◌==◌, if◌then◌else◌}
use Rattle.std.specs.Prelude.{List, [], ◌∷◌, ◌++◌}
use Rattle.ace_event.specs.declared.event.Outcome.{Outcome}
use Rattle.ace_event.specs.declared.event.Outcome.TheVariants.{Ok}
use Rattle.ace_event.specs.declared.line.Line.{Line}
use Rattle.ace_event.specs.Bytes.{merged}
use Rattle.ace_event.specs.Range.{IsWord}
use Rattle.ace_model.specs.declared.plans.Op.{Op}
use Rattle.ace_model.specs.declared.plans.Op.TheVariants.{Ld, Ldx, St, Stx}
use Rattle.ace_model.specs.Copies.{word_of, zero_line}
use Rattle.ace_runs.specs.Acts.{word_line, word_strobe}
use Rattle.ace_history.specs.declared.entry.Entry.{Entry}

abbrev pub is_ok : Outcome → Bool
is_ok Ok = true
is_ok _ = false

-- the line, with the word in its place where it is stored to
abbrev pub word_stored : Bool → Line → ℕ → ℕ → Line
word_stored stores line w word =
    if stores then merged line (word_strobe w) (word_line w word) else line

-- the line at address a after an operation with this outcome: a `st` changes its word of it, and so
-- does a `stx` that is `ok`
abbrev pub line_by : ℕ → Op → Outcome → Line → Line
line_by a (St b w word) res line = word_stored (a == b) line w word
line_by a (Stx b w word) res line = word_stored (is_ok res && (a == b)) line w word
line_by a _ res line = line

-- the line at address a after the entries
abbrev pub line_after : ℕ → Line → List Entry → Line
line_after a line [] = line
line_after a line (e ∷ history) = line_after a (line_by a e.op e.res line) history

-- The word that the operation is to load where the entries came before it: that of its line in
-- zeros, changed by them in their order. It is 0 where the operation is no load.
abbrev pub word_left : List Entry → Op → ℕ
word_left before (Ld a w) = word_of (line_after a zero_line before) w
word_left before (Ldx a w) = word_of (line_after a zero_line before) w
word_left before _ = 0

-- Each load of the rest has the word that the entries before it leave.
abbrev pub AreRightWords : List Entry → List Entry → Type 0
AreRightWords before [] = ⊤
AreRightWords before (e ∷ rest) =
    (e.word ≡ word_left before e.op) × AreRightWords (before ++ e ∷ []) rest

-- ---- the same by words -----------------------------------------------------------------------

-- word k of the line at address a after the operation
abbrev pub word_by : ℕ → ℕ → Op → Outcome → ℕ → ℕ
word_by a k (St b w word) res old = if (a == b) && (k == w) then word else old
word_by a k (Stx b w word) res old = if (is_ok res && (a == b)) && (k == w) then word else old
word_by a k _ res old = old

-- word k of the line at address a after the entries: that of its last store
abbrev pub word_after : ℕ → ℕ → ℕ → List Entry → ℕ
word_after a k old [] = old
word_after a k old (e ∷ history) = word_after a k (word_by a k e.op e.res old) history

-- what a store stores is a word of a line, and has its width
abbrev pub FitsStore : Op → Type 0
FitsStore (St a w word) = (w ≤ 3) × IsWord word
FitsStore (Stx a w word) = (w ≤ 3) × IsWord word
FitsStore _ = ⊤
