-- Line reads that are no exclusive stores, and the transfers of reads.
use Rattle.std.specs.Prelude.{ℕ, ◌+◌, Bool, not, ◌&&◌, ◌==◌, nat_lt, if◌then◌else◌, Option, Some, None, option_and_then}
use Rattle.ace_codes.specs.declared.kind.ArKind.{ArKind}
use Rattle.ace_tables.specs.Answers.{same_test}
use Rattle.ace_model.specs.Kinds.{beats_of, is_line_read}
use Rattle.ace_model.specs.Transactions.{is_exclusive_store, read_kind}
use Rattle.ace_model.specs.declared.transactions.Transaction.{Transaction}

-- the kind of a line read that is no exclusive store, so that it can't fail (Arm IHI 0022E, C9)
abbrev pub unfailing_read : Transaction → Option ArKind
unfailing_read x =
    option_and_then (λ k. if is_line_read k && not (is_exclusive_store x) then Some k else None)
    (read_kind x)

-- after so many transfers of a read of this kind some are left, and `last` says whether the next is
-- the last
abbrev pub is_next_beat : ℕ → Bool → ArKind → Bool
is_next_beat transfers last k =
    nat_lt transfers (beats_of k) && same_test last (transfers + 1 == beats_of k)
