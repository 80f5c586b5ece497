-- The rules of R and RK, K18 to K23.
use Rattle.std.specs.Prelude.{ℕ, ◌+◌, Bool, true, not, ◌&&◌, ◌||◌, ◌==◌, nat_lt, if◌then◌else◌, is_some}
use Rattle.ace_codes.specs.declared.kind.ArKind.{ArKind}
use Rattle.ace_codes.specs.declared.state.LineState.{LineState}
use Rattle.ace_codes.specs.declared.state.LineState.TheVariants.{I}
use Rattle.ace_event.specs.declared.event.Channel.TheVariants.{Read}
use Rattle.ace_event.specs.declared.event.Event.{Event}
use Rattle.ace_event.specs.declared.event.Event.TheVariants.{R, Rk}
use Rattle.ace_event.specs.declared.header.Header.{Header}
use Rattle.ace_codes.specs.Responses.{passes_dirty, is_shared, low_bits}
use Rattle.ace_tables.specs.Answers.{same_test}
use Rattle.ace_tables.specs.EndStates.{ends_read}
use Rattle.ace_model.specs.declared.transactions.Transaction.{Transaction}
use Rattle.ace_model.specs.Trace.{Trace, is_some_and, implies, is_none_or}
use Rattle.ace_model.specs.Kinds.{beats_of, takes_passed_data, may_be_shared, is_read_not_shared_dirty, is_clean_unique, is_make_unique}
use Rattle.ace_model.specs.Transactions.{transfers, read_kind, is_line, outstanding, is_ace, first_resp, next_complete, acknowledged}
use Rattle.ace_model.specs.Grants.{are_passed_data_whole, is_granted, has_passed_data, has_sharer}
use Rattle.ace_model.specs.Exclusives.{has_passed, has_failed}
use Rattle.ace_model.specs.States.{are_snoops_done, state_of, has_store}
use Rattle.ace_model.specs.Copies.{is_line_read_transaction, word_of}
use Rattle.ace_model.specs.Replies.{reply_of}

-- the read has transfers left, and `last` says whether this is the last
abbrev pub is_next_transfer : Trace → Transaction → Bool → ArKind → Bool
is_next_transfer past x last k =
    nat_lt (transfers past x.port x.id) (beats_of k)
    && same_test last (transfers past x.port x.id + 1 == beats_of k)

-- the passed data are for a kind that takes them, they are whole, and the response says PassDirty
abbrev pub takes_passed : Header → Trace → Transaction → ℕ → Bool
takes_passed h past x resp =
    is_some_and (read_kind x) takes_passed_data && are_passed_data_whole h past x
    && passes_dirty resp

-- the line read is granted, has its snoops done at its first transfer, and takes the passed data,
-- if there are any
abbrev pub may_transfer : Header → Trace → Transaction → ℕ → Bool
may_transfer h past x resp =
    is_granted h past x && implies (transfers past x.port x.id == 0) (are_snoops_done h past x)
    && implies (has_passed_data h past x) (takes_passed h past x resp)

abbrev pub is_due : Header → Trace → ℕ → Bool → Transaction → Bool
is_due h past resp last x =
    is_some_and (read_kind x) (is_next_transfer past x last)
    && implies (is_line x) (may_transfer h past x resp)

-- K18: an R names an outstanding read with transfers left, and it is the last exactly where it says
-- so. If it is a line transaction, it is granted and, at its first transfer, has its snoops done.
-- If there are passed data, the read is ReadShared, ReadNotSharedDirty or ReadUnique, their CD
-- burst is whole, and PassDirty is 1 (Arm IHI 0022E, C4 and C6).
abbrev pub k18 : Header → Trace → Event → Bool
k18 h past (R p i resp last word) =
    is_some_and (outstanding h past p Read i) (is_due h past resp last)
k18 h past _ = true

-- PassDirty and IsShared are those of the first transfer
abbrev pub same_upper_bits : ℕ → ℕ → Bool
same_upper_bits resp first =
    same_test (passes_dirty resp) (passes_dirty first)
    && same_test (is_shared resp) (is_shared first)

-- an answer under the grant of the read has IsShared, and the read is one that can be told
abbrev pub must_be_shared : Header → Trace → Transaction → ArKind → Bool
must_be_shared h past x k = is_ace h x.port && may_be_shared k && has_sharer h past x.addr

-- PassDirty and IsShared are permitted for this kind
abbrev pub fits_kind : Header → Trace → Transaction → ℕ → ArKind → Bool
fits_kind h past x resp k =
    implies (is_shared resp) (may_be_shared k)
    && not (is_read_not_shared_dirty k && passes_dirty resp && is_shared resp)
    && implies (must_be_shared h past x k) (is_shared resp)

abbrev pub has_upper_bits : Header → Trace → ℕ → Transaction → Bool
has_upper_bits h past resp x =
    implies (passes_dirty resp) (has_passed_data h past x)
    && is_none_or (read_kind x) (fits_kind h past x resp)
    && implies (passes_dirty resp || is_shared resp) (is_ace h x.port)
    && is_none_or (first_resp past x.port x.id) (same_upper_bits resp)

-- K19: PassDirty of an R is 0 where there are no passed data. IsShared is 0 for ReadNoSnoop,
-- ReadUnique, CleanUnique, MakeUnique, CleanInvalid, MakeInvalid, barriers and DVM.
-- ReadNotSharedDirty hasn't both, and at an ACE-Lite port both are 0. IsShared is 1 where an answer
-- under the grant has it, at an ACE port and for another kind. The later transfers have the two
-- bits of the first (Arm IHI 0022E, C3.2.1 and C4).
abbrev pub k19 : Header → Trace → Event → Bool
k19 h past (R p i resp last word) =
    is_none_or (outstanding h past p Read i) (has_upper_bits h past resp)
k19 h past _ = true

-- a beat of a line has the word of the reply, and a dataless transfer the word 0
abbrev pub has_word : Trace → ℕ → Transaction → Bool
has_word past word x =
    word == (if is_line_read_transaction x
    then word_of (reply_of past x) (transfers past x.port x.id) else 0)

-- K20: a dataless transfer has the word 0. A beat of a line has the word of the reply: the copy of
-- the first port that answered with DataTransfer under the grant, at its answer, else memory at the
-- first beat (Arm IHI 0022E, C6; which of them is our choice).
abbrev pub k20 : Header → Trace → Event → Bool
k20 h past (R p i resp last word) = is_none_or (outstanding h past p Read i) (has_word past word)
k20 h past _ = true

-- the read is an exclusive load, or an exclusive store that passed
abbrev pub is_exclusive_okay : Trace → Transaction → Bool
is_exclusive_okay past x =
    x.lock && implies (is_some_and (read_kind x) is_clean_unique) (has_passed past x)

abbrev pub has_low_bits : Trace → ℕ → Transaction → Bool
has_low_bits past resp x = low_bits resp == (if is_exclusive_okay past x then 1 else 0)

-- K21: the low two bits of RRESP are EXOKAY for an exclusive load and for an exclusive store that
-- passed, else OKAY (Arm IHI 0022E, C9).
abbrev pub k21 : Header → Trace → Event → Bool
k21 h past (R p i resp last word) =
    is_none_or (outstanding h past p Read i) (has_low_bits past resp)
k21 h past _ = true

-- K22: the port of an RK has a complete read without RK (Arm IHI 0022E, C3.3).
abbrev pub k22 : Header → Trace → Event → Bool
k22 h past (Rk p st) = is_some (next_complete past p Read)
k22 h past _ = true

-- the state that the port holds of the transaction's line; barriers and DVM hold none, which is I
abbrev pub held_of : Header → Trace → Transaction → LineState
held_of h past x = if is_line x then state_of h past x.port x.addr else I

-- the state is an end state of a read of this kind, and a MakeUnique has had its D
abbrev pub is_end : Header → Trace → Transaction → LineState → ArKind → Bool
is_end h past x st k =
    ends_read k (held_of h past x) (is_some_and (first_resp past x.port x.id) is_shared)
    (is_some_and (first_resp past x.port x.id) passes_dirty) (has_failed past x) st
    && implies (is_make_unique k) (has_store h past x.port x.id)

abbrev pub ends_well : Header → Trace → LineState → Transaction → Bool
ends_well h past st x = is_none_or (read_kind x) (is_end h past x st)

-- K23: the state of an RK is an end state of the read, by the state that the port holds and by
-- PassDirty and IsShared; a MakeUnique has had its D (Arm IHI 0022E, C4).
abbrev pub k23 : Header → Trace → Event → Bool
k23 h past (Rk p st) = is_none_or (acknowledged past p Read) (ends_well h past st)
k23 h past _ = true
