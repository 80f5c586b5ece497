-- The clauses of the rules of R and RK, K18 to K23. K22 has one clause, which is the rule. A clause
-- may presume the earlier ones of its rule.
use Rattle.std.specs.Prelude.{ℕ, ◌+◌, Bool, true, not, ◌&&◌, ◌||◌, ◌==◌, nat_lt, is_some, is_none}
use Rattle.std.specs.List.{list_all}
use Rattle.ace_codes.specs.declared.kind.ArKind.{ArKind}
use Rattle.ace_codes.specs.declared.state.LineState.{LineState}
use Rattle.ace_event.specs.declared.event.Channel.TheVariants.{Read}
use Rattle.ace_event.specs.declared.event.Event.{Event}
use Rattle.ace_event.specs.declared.event.Event.TheVariants.{R, Rk}
use Rattle.ace_event.specs.declared.header.Header.{Header}
use Rattle.ace_codes.specs.Responses.{passes_dirty, is_shared, low_bits}
use Rattle.ace_tables.specs.Answers.{same_test}
use Rattle.ace_tables.specs.EndStates.{ends_read}
use Rattle.ace_tables.specs.States.{is_invalid}
use Rattle.ace_model.specs.declared.transactions.Transaction.{Transaction}
use Rattle.ace_model.specs.Trace.{Trace, is_some_and, implies, is_none_or}
use Rattle.ace_model.specs.Kinds.{beats_of, is_line_read, takes_passed_data, may_be_shared, is_read_not_shared_dirty, is_make_unique}
use Rattle.ace_model.specs.Transactions.{transfers, read_kind, is_line, outstanding, is_ace, is_exclusive_store, first_resp, acknowledged, snoop_of}
use Rattle.ace_model.specs.Grants.{are_passed_data_whole, is_granted, has_passed_data, owes_answer, owes_data, was_snooped, ports_below}
use Rattle.ace_model.specs.Exclusives.{has_passed, has_failed}
use Rattle.ace_model.specs.States.{state_of, has_store}
use Rattle.ace_model.specs.Copies.{is_line_read_transaction, word_of}
use Rattle.ace_model.specs.Replies.{reply_of}
use Rattle.ace_model.specs.ReadRules.{must_be_shared, same_upper_bits, is_exclusive_okay, held_of}

-- K18a: an R names an outstanding read.
abbrev pub k18a : Header → Trace → Event → Bool
k18a h past (R p i resp last word) = is_some (outstanding h past p Read i)
k18a h past _ = true

-- K18b: the read has transfers left.
abbrev pub has_transfers_left : Trace → Transaction → Bool
has_transfers_left past x =
    is_some_and (read_kind x) (λ k. nat_lt (transfers past x.port x.id) (beats_of k))

abbrev pub k18b : Header → Trace → Event → Bool
k18b h past (R p i resp last word) =
    is_none_or (outstanding h past p Read i) (has_transfers_left past)
k18b h past _ = true

-- K18c: RLAST is 1 exactly on the last transfer.
abbrev pub is_last_transfer : Trace → Transaction → ArKind → Bool
is_last_transfer past x k = transfers past x.port x.id + 1 == beats_of k

abbrev pub k18c : Header → Trace → Event → Bool
k18c h past (R p i resp last word) =
    is_none_or (outstanding h past p Read i) (λ x. is_none_or (read_kind x)
    (λ k. same_test last (is_last_transfer past x k)))
k18c h past _ = true

-- K18d: a line read is granted.
abbrev pub k18d : Header → Trace → Event → Bool
k18d h past (R p i resp last word) =
    is_none_or (outstanding h past p Read i) (λ x. implies (is_line x) (is_granted h past x))
k18d h past _ = true

-- the test holds of the transaction and each port, where the transaction causes snoops and is no
-- exclusive store that failed
abbrev pub at_each_port : Header → Trace → Transaction → (ℕ → Bool) → Bool
at_each_port h past x test =
    is_none (snoop_of x) || has_failed past x || list_all test (ports_below h.ports)

-- each snoop under the transaction's grant is answered
abbrev pub are_snoops_answered : Header → Trace → Transaction → Bool
are_snoops_answered h past x = at_each_port h past x (λ q. not (owes_answer past q x.addr))

-- the data that answers under its grant announce are whole
abbrev pub are_snoop_data_whole : Header → Trace → Transaction → Bool
are_snoop_data_whole h past x = at_each_port h past x (λ q. not (owes_data past q x.addr))

-- the port is the transaction's own, or has no copy of the line, or was snooped under the grant
abbrev pub needs_no_snoop : Header → Trace → Transaction → ℕ → Bool
needs_no_snoop h past x q =
    (q == x.port) || not (is_ace h q) || is_invalid (state_of h past q x.addr)
    || was_snooped past q x.addr

-- each other ACE port that holds the line was snooped under the grant
abbrev pub are_holders_snooped : Header → Trace → Transaction → Bool
are_holders_snooped h past x = at_each_port h past x (needs_no_snoop h past x)

-- the first transfer of a line read is due
abbrev pub begins_line_read : Trace → Transaction → Bool
begins_line_read past x = is_line x && (transfers past x.port x.id == 0)

-- K18e: at the first transfer of a line read each snoop is answered.
abbrev pub k18e : Header → Trace → Event → Bool
k18e h past (R p i resp last word) =
    is_none_or (outstanding h past p Read i) (λ x. implies (begins_line_read past x)
    (are_snoops_answered h past x))
k18e h past _ = true

-- K18f: at the first transfer the announced snoop data are whole, and at each transfer the passed
-- data are.
abbrev pub has_whole_data : Header → Trace → Transaction → Bool
has_whole_data h past x =
    implies (begins_line_read past x) (are_snoop_data_whole h past x)
    && implies (is_line x && has_passed_data h past x) (are_passed_data_whole h past x)

abbrev pub k18f : Header → Trace → Event → Bool
k18f h past (R p i resp last word) =
    is_none_or (outstanding h past p Read i) (has_whole_data h past)
k18f h past _ = true

-- K18g: at the first transfer each other holder was snooped.
abbrev pub k18g : Header → Trace → Event → Bool
k18g h past (R p i resp last word) =
    is_none_or (outstanding h past p Read i) (λ x. implies (begins_line_read past x)
    (are_holders_snooped h past x))
k18g h past _ = true

-- the test holds of a line read that has passed data
abbrev pub with_passed_data : Header → Trace → (Transaction → Bool) → Transaction → Bool
with_passed_data h past test x = implies (is_line x && has_passed_data h past x) (test x)

-- K18h: passed data, which an M hasn't written to memory, are taken by a ReadShared,
-- ReadNotSharedDirty or ReadUnique.
abbrev pub k18h : Header → Trace → Event → Bool
k18h h past (R p i resp last word) =
    is_none_or (outstanding h past p Read i) (with_passed_data h past
    (λ x. is_some_and (read_kind x) takes_passed_data))
k18h h past _ = true

-- K18i: PassDirty is 1 where data were passed.
abbrev pub k18i : Header → Trace → Event → Bool
k18i h past (R p i resp last word) =
    is_none_or (outstanding h past p Read i) (with_passed_data h past (λ x. passes_dirty resp))
k18i h past _ = true

-- K19a: PassDirty is 0 where no data were passed.
abbrev pub k19a : Header → Trace → Event → Bool
k19a h past (R p i resp last word) =
    is_none_or (outstanding h past p Read i) (λ x. implies (passes_dirty resp)
    (has_passed_data h past x))
k19a h past _ = true

-- K19b: IsShared is 0 for kinds that keep no shared line.
abbrev pub k19b : Header → Trace → Event → Bool
k19b h past (R p i resp last word) =
    is_none_or (outstanding h past p Read i) (λ x. is_none_or (read_kind x)
    (λ k. implies (is_shared resp) (may_be_shared k)))
k19b h past _ = true

-- K19c: a ReadNotSharedDirty has not both bits.
abbrev pub has_not_both : ℕ → ArKind → Bool
has_not_both resp k = not (is_read_not_shared_dirty k && passes_dirty resp && is_shared resp)

abbrev pub k19c : Header → Trace → Event → Bool
k19c h past (R p i resp last word) =
    is_none_or (outstanding h past p Read i) (λ x. is_none_or (read_kind x) (has_not_both resp))
k19c h past _ = true

-- K19d: an ACE-Lite port has neither bit.
abbrev pub k19d : Header → Trace → Event → Bool
k19d h past (R p i resp last word) =
    is_none_or (outstanding h past p Read i) (λ x. implies (passes_dirty resp || is_shared resp)
    (is_ace h x.port))
k19d h past _ = true

-- K19e: IsShared is 1 where an answer under the grant has it, at an ACE port and for a kind that
-- may be told.
abbrev pub k19e : Header → Trace → Event → Bool
k19e h past (R p i resp last word) =
    is_none_or (outstanding h past p Read i)
    (λ x. is_none_or (read_kind x) (λ k. implies (must_be_shared h past x k) (is_shared resp)))
k19e h past _ = true

-- K19f: each transfer has the two bits of the first.
abbrev pub k19f : Header → Trace → Event → Bool
k19f h past (R p i resp last word) =
    is_none_or (outstanding h past p Read i) (λ x. is_none_or (first_resp past x.port x.id)
    (same_upper_bits resp))
k19f h past _ = true

-- K20a: a dataless transfer has the word 0.
abbrev pub k20a : Header → Trace → Event → Bool
k20a h past (R p i resp last word) =
    is_none_or (outstanding h past p Read i)
    (λ x. implies (not (is_line_read_transaction x)) (word == 0))
k20a h past _ = true

-- K20b: a beat of a line has the word of the reply.
abbrev pub is_word_of_reply : Trace → ℕ → Transaction → Bool
is_word_of_reply past word x = word == word_of (reply_of past x) (transfers past x.port x.id)

abbrev pub k20b : Header → Trace → Event → Bool
k20b h past (R p i resp last word) =
    is_none_or (outstanding h past p Read i) (λ x. implies (is_line_read_transaction x)
    (is_word_of_reply past word x))
k20b h past _ = true

-- K21a: EXOKAY for an exclusive load and for an exclusive store that passed.
abbrev pub k21a : Header → Trace → Event → Bool
k21a h past (R p i resp last word) =
    is_none_or (outstanding h past p Read i) (λ x. implies (is_exclusive_okay past x)
    (low_bits resp == 1))
k21a h past _ = true

-- K21b: OKAY for an exclusive store that didn't pass.
abbrev pub k21b : Header → Trace → Event → Bool
k21b h past (R p i resp last word) =
    is_none_or (outstanding h past p Read i)
    (λ x. implies (is_exclusive_store x && not (has_passed past x)) (low_bits resp == 0))
k21b h past _ = true

-- K21c: OKAY where the transaction isn't exclusive.
abbrev pub k21c : Header → Trace → Event → Bool
k21c h past (R p i resp last word) =
    is_none_or (outstanding h past p Read i) (λ x. implies (not x.lock) (low_bits resp == 0))
k21c h past _ = true

-- the test holds of the read that an RK acknowledges, and of its kind
abbrev pub is_acknowledged : Trace → ℕ → (Transaction → ArKind → Bool) → Bool
is_acknowledged past p test =
    is_none_or (acknowledged past p Read) (λ x. is_none_or (read_kind x) (test x))

-- the state is an end state of the read, by the state that the port holds, by PassDirty and
-- IsShared, and by whether it is an exclusive store that failed
abbrev pub ends_in : Header → Trace → LineState → Transaction → ArKind → Bool
ends_in h past st x k =
    ends_read k (held_of h past x) (is_some_and (first_resp past x.port x.id) is_shared)
    (is_some_and (first_resp past x.port x.id) passes_dirty) (has_failed past x) st

-- K23a: the state of an RK is an end state of the line read.
abbrev pub k23a : Header → Trace → Event → Bool
k23a h past (Rk p st) =
    is_acknowledged past p (λ x k. implies (is_line_read k) (ends_in h past st x k))
k23a h past _ = true

-- K23b: a MakeUnique has had its store.
abbrev pub k23b : Header → Trace → Event → Bool
k23b h past (Rk p st) =
    is_acknowledged past p (λ x k. implies (is_make_unique k) (has_store h past x.port x.id))
k23b h past _ = true

-- K23c: a barrier or DVM transaction ends in its one end state, I.
abbrev pub k23c : Header → Trace → Event → Bool
k23c h past (Rk p st) =
    is_acknowledged past p (λ x k. implies (not (is_line_read k)) (ends_in h past st x k))
k23c h past _ = true
