-- The segment of an operation: the events of its port since the port's previous OP. These
-- look-backs end at that OP.
use Rattle.std.specs.Prelude.{ℕ, ◌+◌, Bool, not, ◌&&◌, ◌==◌, if◌then◌else◌, List, [], ◌∷◌, length}
use Rattle.std.specs.List.{list_any}
use Rattle.ace_codes.specs.declared.kind.ArKind.{ArKind}
use Rattle.ace_codes.specs.declared.kind.AwKind.{AwKind}
use Rattle.ace_codes.specs.Places.{is_at}
use Rattle.ace_codes.specs.Reads.{read_place}
use Rattle.ace_codes.specs.Writes.{write_place}
use Rattle.ace_event.specs.declared.event.Event.{Event}
use Rattle.ace_event.specs.declared.event.Event.TheVariants.{S, Op}
use Rattle.ace_model.specs.declared.transactions.Transaction.{Transaction}
use Rattle.ace_model.specs.Trace.{Trace, more, port_of, is_some_and, option_filter}
use Rattle.ace_model.specs.Transactions.{is_read, issued}
use Rattle.ace_model.specs.Messages.{is_dvm_completion}
use Rattle.ace_runs.specs.Acts.{is_act}

-- the event is one of the port
abbrev pub is_at_port : ℕ → Event → Bool
is_at_port p e = is_some_and (port_of e) (λ q. q == p)

-- the port issued it for an operation: it is no DVM Complete
abbrev pub is_for_operation : ℕ → Transaction → Bool
is_for_operation p x = (x.port == p) && not (is_dvm_completion x)

-- the transactions that the port has issued for its next operation, in order
abbrev pub segment : Trace → ℕ → List Transaction
segment [] p = []
segment (Op q k res ∷ past) p = if p == q then [] else segment past p
segment (e ∷ past) p =
    more (segment past p) (option_filter (is_for_operation p) (issued (length past) e))

-- how many acts the port has made for its next operation
abbrev pub acts_made : Trace → ℕ → ℕ
acts_made [] p = 0
acts_made (Op q k res ∷ past) p = if p == q then 0 else acts_made past p
acts_made (e ∷ past) p =
    if is_at_port p e && is_act e then acts_made past p + 1 else acts_made past p

-- how many silent transitions the port has made in the segment
abbrev pub silent_moves : Trace → ℕ → ℕ
silent_moves [] p = 0
silent_moves (Op q k res ∷ past) p = if p == q then 0 else silent_moves past p
silent_moves (S q addr st ∷ past) p =
    if p == q then silent_moves past p + 1 else silent_moves past p
silent_moves (_ ∷ past) p = silent_moves past p

-- the transaction is a read, a write of the kind on the line
abbrev pub is_read_of : ArKind → ℕ → Transaction → Bool
is_read_of k a x = is_read x.chan && is_at (read_place k) x.snoop x.dom x.bar && (x.addr == a)

abbrev pub is_write_of : AwKind → ℕ → Transaction → Bool
is_write_of k a x =
    not (is_read x.chan) && is_at (write_place k) x.snoop x.dom x.bar && (x.addr == a)

-- the transaction was issued for its port's next operation
abbrev pub is_in_segment : Trace → Transaction → Bool
is_in_segment past x = list_any (λ y. x.place == y.place) (segment past x.port)

-- the port has issued such a write for its next operation
abbrev pub has_written : Trace → ℕ → AwKind → ℕ → Bool
has_written past p k a = list_any (is_write_of k a) (segment past p)
