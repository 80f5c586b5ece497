-- What is known of the AR of a read without a line.
use Rattle.std.specs.Prelude.{ℕ, ◌≡◌, Some, false}
use Rattle.ace_codes.specs.Reads.{ar_kind_of}
use Rattle.ace_codes.specs.declared.kind.ArKind.{ArKind}
use Rattle.ace_event.specs.declared.event.Event.{Event}
use Rattle.ace_event.specs.declared.event.Event.TheVariants.{Ar}
use Rattle.ace_model.specs.Kinds.{is_line_read}
use Rattle.ace_model.specs.declared.transactions.Transaction.{Transaction}
use Rattle.ace_model.specs.Transactions.{issued, read_kind}

-- the AR that issues the read
abbrev pub ar_of : Transaction → Event
ar_of x = Ar x.port x.id x.addr x.snoop x.dom x.bar x.lock

-- the event after so many issues this read, of this kind, which has no line
pub record IsLinelessRead (place : ℕ) (e : Event) (x : Transaction) (k : ArKind) : Type 0 where
  pub issues : issued place e ≡ Some x
  pub codes : ar_kind_of x.snoop x.dom x.bar ≡ Some k
  pub kind : read_kind x ≡ Some k
  pub lineless : is_line_read k ≡ false
