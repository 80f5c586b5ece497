-- The clauses of the rules of write data, grants and snoops, K11 to K17. K14 has one clause, which
-- is the rule. A clause may presume the earlier ones of its rule.
use Rattle.std.specs.Prelude.{ℕ, Bool, true, false, not, ◌&&◌, ◌==◌, is_some, is_none}
use Rattle.ace_codes.specs.declared.kind.SnoopKind.{SnoopKind}
use Rattle.ace_codes.specs.declared.state.LineState.{LineState}
use Rattle.ace_event.specs.declared.event.Event.{Event}
use Rattle.ace_event.specs.declared.event.Event.TheVariants.{W, G, Ac, Cr, Cd}
use Rattle.ace_event.specs.declared.header.Header.{Header}
use Rattle.ace_codes.specs.Responses.{passes_dirty}
use Rattle.ace_codes.specs.Snoops.{ac_kind_of}
use Rattle.ace_tables.specs.Answers.{same_test, states_after, fits_answer, goes_with_update, is_plain_row, is_snoop_row}
use Rattle.ace_tables.specs.States.{is_invalid, is_among}
use Rattle.ace_model.specs.declared.transactions.Transaction.{Transaction}
use Rattle.ace_model.specs.Trace.{Trace, implies, is_none_or}
use Rattle.ace_model.specs.Kinds.{is_line_snoop}
use Rattle.ace_model.specs.Transactions.{write_kind, takes_grant, outstanding}
use Rattle.ace_model.specs.Progress.{has_update}
use Rattle.ace_model.specs.Writes.{next_write, next_write_beat}
use Rattle.ace_model.specs.Snoops.{snoops_a_line, answered}
use Rattle.ace_model.specs.Grants.{granted, has_grant, is_begun, was_snooped}
use Rattle.ace_model.specs.Exclusives.{has_failed}
use Rattle.ace_model.specs.States.{owes_wack, state_of}
use Rattle.ace_model.specs.Replies.{next_sent, next_sent_beat}
use Rattle.ace_model.specs.SnoopRules.{has_snoop_code}
use Rattle.ace_model.specs.Shares.{fits_strobe, k11_data, k17_data}

-- K11a: the port of a W has a write with data whose burst isn't whole.
abbrev pub k11a : Header → Trace → Event → Bool
k11a h past (W p strb last word) = is_some (next_write past p)
k11a h past _ = true

-- K11b: WLAST is 1 exactly on the fourth beat.
abbrev pub k11b : Header → Trace → Event → Bool
k11b h past (W p strb last word) =
    is_none_or (next_write past p) (λ x. same_test last (next_write_beat past p == 3))
k11b h past _ = true

-- K11c: a WriteLineUnique or memory update has all strobes.
abbrev pub k11c : Header → Trace → Event → Bool
k11c h past (W p strb last word) =
    is_none_or (next_write past p) (λ x. is_none_or (write_kind x) (fits_strobe strb))
k11c h past _ = true

-- K11d: a memory update sends the words of the port's copy.
abbrev pub k11d : Header → Trace → Event → Bool
k11d h past e = k11_data h past e

-- K12a: a G names an outstanding transaction.
abbrev pub k12a : Header → Trace → Event → Bool
k12a h past (G p c i) = is_some (outstanding h past p c i)
k12a h past _ = true

-- K12b: its kind is one that is granted.
abbrev pub k12b : Header → Trace → Event → Bool
k12b h past (G p c i) = is_none_or (outstanding h past p c i) takes_grant
k12b h past _ = true

-- K12c: it has had no G.
abbrev pub k12c : Header → Trace → Event → Bool
k12c h past (G p c i) =
    is_none_or (outstanding h past p c i) (λ x. not (has_grant past x.port x.chan x.id))
k12c h past _ = true

-- K12d: no transaction on its line is granted.
abbrev pub k12d : Header → Trace → Event → Bool
k12d h past (G p c i) = is_none_or (outstanding h past p c i) (λ x. is_none (granted h past x.addr))
k12d h past _ = true

-- the test holds of the granted transaction for which a line snoop is sent
abbrev pub is_for : Header → Trace → ℕ → ℕ → (Transaction → Bool) → Bool
is_for h past addr snoop test =
    implies (snoops_a_line snoop) (is_none_or (granted h past addr) test)

-- K13a: the line of a line snoop has a granted transaction.
abbrev pub k13a : Header → Trace → Event → Bool
k13a h past (Ac p addr snoop) = implies (snoops_a_line snoop) (is_some (granted h past addr))
k13a h past _ = true

-- K13b: it is of another port than the snooped one.
abbrev pub k13b : Header → Trace → Event → Bool
k13b h past (Ac p addr snoop) = is_for h past addr snoop (λ x. not (x.port == p))
k13b h past _ = true

-- K13c: the snoop is the one that its kind causes.
abbrev pub k13c : Header → Trace → Event → Bool
k13c h past (Ac p addr snoop) = is_for h past addr snoop (λ x. has_snoop_code x snoop)
k13c h past _ = true

-- K13d: it is no exclusive store that failed.
abbrev pub k13d : Header → Trace → Event → Bool
k13d h past (Ac p addr snoop) = is_for h past addr snoop (λ x. not (has_failed past x))
k13d h past _ = true

-- K13e: it has had no R or, if it is a write, no M.
abbrev pub k13e : Header → Trace → Event → Bool
k13e h past (Ac p addr snoop) = is_for h past addr snoop (λ x. not (is_begun past x))
k13e h past _ = true

-- K13f: the port was not snooped under this grant.
abbrev pub k13f : Header → Trace → Event → Bool
k13f h past (Ac p addr snoop) = implies (snoops_a_line snoop) (not (was_snooped past p addr))
k13f h past _ = true

-- K13g: the port has no write of the line between B and WK.
abbrev pub k13g : Header → Trace → Event → Bool
k13g h past (Ac p addr snoop) = implies (snoops_a_line snoop) (not (owes_wack h past p addr))
k13g h past _ = true

-- the test holds of the kind of the snoop that the port's next CR answers, and of the state that
-- the port holds
abbrev pub is_answer : Header → Trace → ℕ → (SnoopKind → LineState → Bool) → Bool
is_answer h past p test =
    is_none_or (answered past p) (λ s. is_none_or (ac_kind_of s.snoop)
    (λ k. test k (state_of h past p s.addr)))

-- a line snoop of a line that the port holds
abbrev pub is_hit : SnoopKind → LineState → Bool
is_hit k held = is_line_snoop k && not (is_invalid held)

-- K15a: where the port holds the line, the new state is one that the snoop may leave.
abbrev pub k15a : Header → Trace → Event → Bool
k15a h past (Cr p resp st) =
    is_answer h past p (λ k held. implies (is_hit k held) (is_among st (states_after k held)))
k15a h past _ = true

-- K15b: a port without the line answers a line snoop with 00 and stays I.
abbrev pub k15b : Header → Trace → Event → Bool
k15b h past (Cr p resp st) =
    is_answer h past p (λ k held. implies (is_line_snoop k && is_invalid held)
    (is_plain_row resp st))
k15b h past _ = true

-- K15c: a DVM snoop is answered with 00 and I.
abbrev pub k15c : Header → Trace → Event → Bool
k15c h past (Cr p resp st) =
    is_answer h past p (λ k held. implies (not (is_line_snoop k)) (is_plain_row resp st))
k15c h past _ = true

-- K15d: where the port holds the line, the bits of CRRESP fit the states before and after.
abbrev pub k15d : Header → Trace → Event → Bool
k15d h past (Cr p resp st) =
    is_answer h past p (λ k held. implies (is_hit k held) (fits_answer k held st resp))
k15d h past _ = true

-- the test holds as in `is_answer`, where a memory update of the port on the line is outstanding
abbrev pub is_answer_beside_update : Header → Trace → ℕ → (SnoopKind → LineState → Bool) → Bool
is_answer_beside_update h past p test =
    is_none_or (answered past p)
    (λ s. implies (has_update h past p s.addr)
    (is_none_or (ac_kind_of s.snoop) (λ k. test k (state_of h past p s.addr))))

-- K16a: beside an update no ReadUnique, CleanShared, CleanInvalid or MakeInvalid snoop of a line
-- that the port holds is answered: it waits for the update.
abbrev pub k16a : Header → Trace → Event → Bool
k16a h past (Cr p resp st) =
    is_answer_beside_update h past p (λ k held. implies (is_hit k held) (goes_with_update k))
k16a h past _ = true

-- K16b: beside an update PassDirty is 0.
abbrev pub k16b : Header → Trace → Event → Bool
k16b h past (Cr p resp st) =
    is_answer_beside_update h past p (λ k held. implies (is_hit k held) (not (passes_dirty resp)))
k16b h past _ = true

-- K16c: beside an update the port keeps the line; and the answer is a row of the snoop, which K15
-- asks of it as well.
abbrev pub keeps_the_line : ℕ → LineState → SnoopKind → LineState → Bool
keeps_the_line resp st k held =
    implies (is_hit k held) (not (is_invalid st)) && is_snoop_row k held false resp st

abbrev pub k16c : Header → Trace → Event → Bool
k16c h past (Cr p resp st) = is_answer_beside_update h past p (keeps_the_line resp st)
k16c h past _ = true

-- K17a: the port of a CD has an answer with DataTransfer whose burst isn't whole.
abbrev pub k17a : Header → Trace → Event → Bool
k17a h past (Cd p last word) = is_some (next_sent past p)
k17a h past _ = true

-- K17b: CDLAST is 1 exactly on the fourth beat.
abbrev pub k17b : Header → Trace → Event → Bool
k17b h past (Cd p last word) =
    is_none_or (next_sent past p) (λ line. same_test last (next_sent_beat past p == 3))
k17b h past _ = true

-- K17c: the word is that of the port's copy at its answer.
abbrev pub k17c : Header → Trace → Event → Bool
k17c h past e = k17_data h past e
