-- What a line write is: a write that isn't half of a barrier.
use Rattle.std.specs.Prelude.{ℕ, if◌then◌else◌, Option, Some, None, option_and_then}
use Rattle.ace_codes.specs.Writes.{aw_kind_of}
use Rattle.ace_codes.specs.declared.kind.AwKind.{AwKind}
use Rattle.ace_model.specs.Kinds.{is_line_write}
use Rattle.ace_model.specs.Trace.{option_filter}
use Rattle.ace_model.specs.Transactions.{write_kind}
use Rattle.ace_model.specs.declared.transactions.Transaction.{Transaction}

-- the kind of a line write
abbrev pub line_write : Transaction → Option AwKind
line_write x = option_and_then (λ k. if is_line_write k then Some k else None) (write_kind x)

-- the kind of a line write, by the fields of its AW
abbrev pub line_write_kind : ℕ → ℕ → ℕ → Option AwKind
line_write_kind snoop dom bar = option_filter is_line_write (aw_kind_of snoop dom bar)
