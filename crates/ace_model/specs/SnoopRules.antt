-- The rules of write data, grants and snoops, K11 to K17.
use Rattle.std.specs.Prelude.{ℕ, Bool, true, false, not, ◌&&◌, ◌||◌, ◌==◌, is_some, is_none}
use Rattle.ace_codes.specs.declared.kind.AwKind.{AwKind}
use Rattle.ace_codes.specs.declared.state.LineState.{LineState}
use Rattle.ace_event.specs.declared.event.Event.{Event}
use Rattle.ace_event.specs.declared.event.Event.TheVariants.{W, G, Ac, Cr, Cd}
use Rattle.ace_event.specs.declared.header.Header.{Header}
use Rattle.ace_codes.specs.Snoops.{ac_code, ac_kind_of}
use Rattle.ace_tables.specs.Answers.{same_test, is_snoop_row}
use Rattle.ace_model.specs.declared.snoops.Snoop.{Snoop}
use Rattle.ace_model.specs.declared.transactions.Transaction.{Transaction}
use Rattle.ace_model.specs.Trace.{Trace, implies, is_none_or, is_some_and}
use Rattle.ace_model.specs.Kinds.{is_update, is_write_line_unique}
use Rattle.ace_model.specs.Transactions.{write_kind, takes_grant, outstanding, snoop_of}
use Rattle.ace_model.specs.Progress.{has_update}
use Rattle.ace_model.specs.Writes.{next_write, next_write_beat}
use Rattle.ace_model.specs.Snoops.{snoops_a_line, answered}
use Rattle.ace_model.specs.Grants.{granted, has_grant, is_begun, was_snooped}
use Rattle.ace_model.specs.Exclusives.{has_failed}
use Rattle.ace_model.specs.States.{owes_wack, state_of}
use Rattle.ace_model.specs.Copies.{word_of, copy_of}
use Rattle.ace_model.specs.Replies.{next_sent, next_sent_beat}

-- all strobes of a beat
abbrev pub full_beat : ℕ
full_beat = 65535

-- the beat of this number has the strobe and the word that the kind asks for
abbrev pub fits_write : Trace → Transaction → ℕ → ℕ → ℕ → AwKind → Bool
fits_write past x beat strobe word k =
    implies (is_update k || is_write_line_unique k) (strobe == full_beat)
    && implies (is_update k) (word == word_of (copy_of past x.port x.addr) beat)

abbrev pub is_next_beat : Trace → ℕ → ℕ → Bool → ℕ → Transaction → Bool
is_next_beat past beat strobe last word x =
    same_test last (beat == 3) && is_none_or (write_kind x) (fits_write past x beat strobe word)

-- K11: the port of a W has a write with data whose burst isn't whole; the beat belongs to the
-- oldest of them. It is the last exactly where it says so. WriteLineUnique and memory updates have
-- all strobes, and a memory update sends the words of the port's copy (Arm IHI 0022E, A5.3, A3.4
-- and C4; that a memory update has all strobes is our choice).
abbrev pub k11 : Header → Trace → Event → Bool
k11 h past (W p strb last word) =
    is_some_and (next_write past p) (is_next_beat past (next_write_beat past p) strb last word)
k11 h past _ = true

-- K12: a G names an outstanding transaction that is of a kind that is granted and has no G, and no
-- transaction on the line is granted.
abbrev pub may_be_granted : Header → Trace → Transaction → Bool
may_be_granted h past x =
    takes_grant x && not (has_grant past x.port x.chan x.id) && is_none (granted h past x.addr)

abbrev pub k12 : Header → Trace → Event → Bool
k12 h past (G p c i) = is_some_and (outstanding h past p c i) (may_be_granted h past)
k12 h past _ = true

-- the snoop of the transaction has this code
abbrev pub has_snoop_code : Transaction → ℕ → Bool
has_snoop_code x snoop = is_some_and (snoop_of x) (λ k. ac_code k == snoop)

-- the granted transaction may still be snooped with this code at the port
abbrev pub may_snoop_for : Trace → Transaction → ℕ → ℕ → Bool
may_snoop_for past x p snoop =
    not (x.port == p) && has_snoop_code x snoop && not (has_failed past x) && not (is_begun past x)

abbrev pub may_snoop : Header → Trace → ℕ → ℕ → ℕ → Bool
may_snoop h past p addr snoop =
    is_some_and (granted h past addr) (λ x. may_snoop_for past x p snoop)
    && not (was_snooped past p addr) && not (owes_wack h past p addr)

-- K13: the line of a line snoop has a granted transaction. It is another port's, the snoop is the
-- one that it causes, it isn't an exclusive store that failed, and it has had no R or, if it is a
-- write, no M. The snooped port wasn't snooped under this grant, and it has no write of the line
-- with B and without WK (Arm IHI 0022E, C6).
abbrev pub k13 : Header → Trace → Event → Bool
k13 h past (Ac p addr snoop) = implies (snoops_a_line snoop) (may_snoop h past p addr snoop)
k13 h past _ = true

-- K14: the port of a CR has an unanswered AC, and the CR answers the oldest (Arm IHI 0022E, C3.7).
abbrev pub k14 : Header → Trace → Event → Bool
k14 h past (Cr p resp st) = is_some (answered past p)
k14 h past _ = true

-- the answer is a row of the snoop and the state that the port holds
abbrev pub answers_by_row : Header → Trace → ℕ → ℕ → LineState → Snoop → Bool
answers_by_row h past p resp st s =
    is_none_or (ac_kind_of s.snoop) (λ k. is_snoop_row k (state_of h past p s.addr) false resp st)

-- K15: the response and the state of a CR are a row of the snoop and of the port's state, without
-- regard to memory updates (Arm IHI 0022E, C5).
abbrev pub k15 : Header → Trace → Event → Bool
k15 h past (Cr p resp st) = is_none_or (answered past p) (answers_by_row h past p resp st)
k15 h past _ = true

-- with a memory update of the line outstanding, the answer is a row of the snoop that goes with it
abbrev pub answers_beside_update : Header → Trace → ℕ → ℕ → LineState → Snoop → Bool
answers_beside_update h past p resp st s =
    implies (has_update h past p s.addr)
    (is_none_or (ac_kind_of s.snoop) (λ k. is_snoop_row k (state_of h past p s.addr) true resp st))

-- K16: where a memory update of the port on the line is outstanding, the response and the state of
-- a CR are a row of the snoop with an update (our choice; Arm IHI 0022E, C5 and C6, on a snoop that
-- meets a WriteBack).
abbrev pub k16 : Header → Trace → Event → Bool
k16 h past (Cr p resp st) = is_none_or (answered past p) (answers_beside_update h past p resp st)
k16 h past _ = true

-- K17: the port of a CD has an answer with DataTransfer whose burst isn't whole; the beat belongs
-- to the oldest of them. It is the last exactly where it says so, and has the word of the port's
-- copy at that answer (Arm IHI 0022E, C3.8).
abbrev pub k17 : Header → Trace → Event → Bool
k17 h past (Cd p last word) =
    is_some_and (next_sent past p) (λ line. same_test last (next_sent_beat past p == 3)
    && (word == word_of line (next_sent_beat past p)))
k17 h past _ = true
