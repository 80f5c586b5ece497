-- The rules of the writes to memory, asked of what is kept of their line.
use Rattle.std.specs.Prelude.{ℕ, Bool, false, not, ◌&&◌, ◌||◌, ◌==◌, if◌then◌else◌, Option, Some, None, is_some}
use Rattle.ace_codes.specs.declared.kind.AwKind.{AwKind}
use Rattle.ace_event.specs.declared.header.Header.{Header}
use Rattle.ace_event.specs.declared.line.Line.{Line}
use Rattle.ace_model.specs.declared.transactions.Transaction.{Transaction}
use Rattle.ace_model.specs.Kinds.{is_update}
use Rattle.ace_model.specs.Trace.{is_none_or, is_some_and}
use Rattle.ace_model.specs.Transactions.{is_read, write_kind}
use Rattle.ace_portck.specs.declared.target.Progress.{Progress}
use Rattle.ace_portck.specs.declared.target.WriteData.{WriteData}
use Rattle.ace_lineck.specs.declared.grant.Grant.{Grant}
use Rattle.ace_lineck.specs.declared.record.LineRecord.{LineRecord}
use Rattle.ace_lineck.specs.Kept.{are_done, fits_data, has_passed, is_its, is_passed_whole, passed_kept}

-- the read is granted, has passed data that are whole, and has had no transfer
abbrev pub may_write_passed : Option Grant → Progress → Bool
may_write_passed grant x =
    is_some_and grant (λ g. is_its g x.transaction && has_passed g && is_passed_whole g)
    && (x.transfers == 0)

-- the write of this kind is granted and has its snoops done, or it is a memory update while no
-- passed data are on their way
abbrev pub may_write_burst : Header → LineRecord → Transaction → AwKind → Bool
may_write_burst h kept x k =
    is_some_and kept.grant (λ g. is_its g x && are_done h false g kept.states)
    || (is_update k && is_none_or kept.grant (λ g. not (has_passed g)))

-- K24, of an M of the transaction, which writes the burst, if it is a write
abbrev pub may_write : Header → LineRecord → Progress → Option WriteData → Bool
may_write h kept x burst =
    if is_read x.transaction.chan then may_write_passed kept.grant x
    else is_some burst
    && is_some_and (write_kind x.transaction) (may_write_burst h kept x.transaction)

-- the least of K24 and K25 that it breaks
abbrev pub rule_of_write : Header → LineRecord → Progress → Option WriteData → Line → Option ℕ
rule_of_write h kept x burst line =
    if may_write h kept x burst
    then (if fits_data (passed_kept kept.grant) kept.memory burst line x.transaction then None
    else Some 25)
    else Some 24
