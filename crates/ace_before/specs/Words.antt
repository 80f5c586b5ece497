-- The words for what there is of a line.
use Rattle.std.specs.Prelude.{ℕ, ◌+◌, ◌++◌, ◌==◌, if◌then◌else◌, List, [], Option, Some, None, codes, decimal}
use Rattle.ace_before.specs.declared.before.SnoopBefore.{SnoopBefore}
use Rattle.ace_before.specs.declared.before.SnoopBefore.TheVariants.{Unsnooped, Unanswered, Short, Answered}
use Rattle.ace_codes.specs.declared.kind.ArKind.{ArKind}
use Rattle.ace_codes.specs.declared.kind.AwKind.{AwKind}
use Rattle.ace_event.specs.Text.{line_digits}
use Rattle.ace_event.specs.declared.line.Line.{Line}
use Rattle.ace_event_words.specs.Folding.{folded}
use Rattle.ace_model.specs.Transactions.{read_kind, write_kind}
use Rattle.ace_model.specs.declared.transactions.Transaction.{Transaction}
use Rattle.ace_words.specs.Kinds.{read_word, write_word}

-- the data of a line, folded
unfoldable pub short_line : Line → List ℕ
short_line line = folded (line_digits line)

-- the number of an event that has so many events before it
unfoldable pub number_part : ℕ → List ℕ
number_part place = codes " (event " ++ decimal (place + 1) ++ codes ")"

-- since which event something is so; nothing where it is so from the first
unfoldable pub since_part : ℕ → List ℕ
since_part number = if number == 0 then [] else codes " since event " ++ decimal number

-- the event that wrote memory
unfoldable pub written_part : ℕ → List ℕ
written_part number =
    if number == 0 then codes " (never written)"
    else codes " (event " ++ decimal number ++ codes ")"

-- what a transaction is called
abbrev pub kind_words : Option ArKind → Option AwKind → List ℕ
kind_words (Some kind) write = read_word kind
kind_words None (Some kind) = write_word kind
kind_words None None = []

-- with its number, which is that of its AR or AW
unfoldable pub called : Transaction → List ℕ
called x =
    (if x.lock then codes "exclusive " else []) ++ kind_words (read_kind x) (write_kind x)
    ++ number_part x.place

-- what the port's snoop has come to
abbrev pub snoop_words : SnoopBefore → List ℕ
snoop_words Unsnooped = []
snoop_words Unanswered = codes "; its snoop is unanswered"
snoop_words Short = codes "; its snoop data are not whole"
snoop_words Answered = codes "; its snoop is answered"
