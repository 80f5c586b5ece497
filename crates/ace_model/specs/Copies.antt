-- What a port has of a line, and what memory has of it.
use Rattle.std.specs.Prelude.{ℕ, Bool, ◌&&◌, ◌==◌, if◌then◌else◌, List, [], ◌∷◌, ◌++◌, length, slice_index, Option, Some, None, unwrap_or}
use Rattle.ace_event.specs.declared.event.Channel.TheVariants.{Read}
use Rattle.ace_event.specs.declared.event.Event.{Event}
use Rattle.ace_event.specs.declared.event.Event.TheVariants.{Ar, R, D, M, Mem}
use Rattle.ace_event.specs.declared.line.Line.{Line}
use Rattle.ace_event.specs.Bytes.{merged}
use Rattle.ace_model.specs.declared.transactions.Transaction.{Transaction}
use Rattle.ace_model.specs.Trace.{is_some_and, Trace}
use Rattle.ace_model.specs.Kinds.{reads_a_line}
use Rattle.ace_model.specs.Transactions.{read_kind, transaction_of, is_on, is_some_on}

-- the line that copies start with, and memory where no MEM opens it
abbrev pub zero_line : Line
zero_line = record { words = 0 ∷ 0 ∷ 0 ∷ 0 ∷ [] }

-- word k of the line, from 0 to 3, in order of address
abbrev pub word_of : Line → ℕ → ℕ
word_of line k = slice_index line.words k

abbrev pub same_line : Line → Line → Bool
same_line a b =
    (word_of a 0 == word_of b 0) && (word_of a 1 == word_of b 1)
    && (word_of a 2 == word_of b 2) && (word_of a 3 == word_of b 3)

-- the transaction is a read of a line, of four beats
abbrev pub is_line_read_transaction : Transaction → Bool
is_line_read_transaction x = is_some_and (read_kind x) reads_a_line

-- the words that the port has had under the identifier since its last AR with it
abbrev pub words_read : Trace → ℕ → ℕ → List ℕ
words_read [] p i = []
words_read (Ar q j addr snoop dom bar lock ∷ past) p i =
    if (p == q) && (i == j) then [] else words_read past p i
words_read (R q j resp last word ∷ past) p i =
    if (p == q) && (i == j) then words_read past p i ++ word ∷ [] else words_read past p i
words_read (_ ∷ past) p i = words_read past p i

-- the line that the port has received whole with the event: the fourth R of its read of that line
abbrev pub received : Trace → Event → ℕ → ℕ → Option Line
received past (R q i resp last word) p l =
    if (p == q) && (length (words_read past p i) == 3)
    && is_some_and (transaction_of past p Read i) (λ x. is_on x l && is_line_read_transaction x)
    then Some (record { words = words_read past p i ++ word ∷ [] }) else None
received past _ p l = None

-- the port's copy, where the event is its store to the line: the bytes of the strobe are replaced
abbrev pub stored_into : Line → Event → ℕ → ℕ → Line
stored_into copy (D q addr strobe x line) p l =
    if (p == q) && (l == addr) then merged copy strobe line else copy
stored_into copy _ p l = copy

-- The port's copy of the line: the line that it received last, with its own stores since in order.
-- It starts as zeros.
abbrev pub copy_of : Trace → ℕ → ℕ → Line
copy_of [] p l = zero_line
copy_of (e ∷ past) p l = unwrap_or (received past e p l) (stored_into (copy_of past p l) e p l)

-- the line that the event opens memory with, where it is its MEM
abbrev pub opened : Event → ℕ → Option Line
opened (Mem addr line) l = if l == addr then Some line else None
opened _ l = None

-- what memory of the line is from the event on, where the event is an M for it, or its MEM
abbrev pub written : Trace → Event → ℕ → Option Line
written past (M p c i line) l = if is_some_on (transaction_of past p c i) l then Some line else None
written past e l = opened e l

-- Memory of the line: what the last M for it wrote, else the line of its MEM, else zeros.
abbrev pub memory_of : Trace → ℕ → Line
memory_of [] l = zero_line
memory_of (e ∷ past) l = unwrap_or (written past e l) (memory_of past l)
