-- What transactions and snoops are called: a question mark where there is no such one.
use Rattle.std.specs.Prelude.{ℕ, List, Option, Some, None, codes}
use Rattle.ace_codes.specs.Reads.{ar_kind_of}
use Rattle.ace_codes.specs.Snoops.{ac_kind_of}
use Rattle.ace_codes.specs.Writes.{aw_kind_of}
use Rattle.ace_codes.specs.declared.kind.ArKind.{ArKind}
use Rattle.ace_codes.specs.declared.kind.AwKind.{AwKind}
use Rattle.ace_codes.specs.declared.kind.SnoopKind.{SnoopKind}
use Rattle.ace_event.specs.declared.event.Channel.{Channel}
use Rattle.ace_event.specs.declared.event.Channel.TheVariants.{Read, Write}
use Rattle.ace_model.specs.declared.transactions.Transaction.{Transaction}
use Rattle.ace_words.specs.Kinds.{read_word, write_word, snoop_word}

abbrev pub words_of_read : Option ArKind → List ℕ
words_of_read None = codes "?"
words_of_read (Some kind) = read_word kind

abbrev pub words_of_write : Option AwKind → List ℕ
words_of_write None = codes "?"
words_of_write (Some kind) = write_word kind

abbrev pub words_of_snoop : Option SnoopKind → List ℕ
words_of_snoop None = codes "?"
words_of_snoop (Some kind) = snoop_word kind

-- by the codes of an address
abbrev pub read_words : ℕ → ℕ → ℕ → List ℕ
read_words snoop dom bar = words_of_read (ar_kind_of snoop dom bar)

abbrev pub write_words : ℕ → ℕ → ℕ → List ℕ
write_words snoop dom bar = words_of_write (aw_kind_of snoop dom bar)

abbrev pub snoop_words : ℕ → List ℕ
snoop_words snoop = words_of_snoop (ac_kind_of snoop)

abbrev pub words_on : Channel → ℕ → ℕ → ℕ → List ℕ
words_on Read snoop dom bar = read_words snoop dom bar
words_on Write snoop dom bar = write_words snoop dom bar

abbrev pub transaction_words : Transaction → List ℕ
transaction_words x = words_on x.chan x.snoop x.dom x.bar

-- of the transaction that an event belongs to
abbrev pub served_words : Option Transaction → List ℕ
served_words None = codes "?"
served_words (Some x) = transaction_words x
