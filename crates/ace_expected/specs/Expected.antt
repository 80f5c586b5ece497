-- What a clause that is false expects of an event, and what it got: for those clauses that expect a
-- value.
use Rattle.std.specs.Prelude.{ℕ, ◌+◌, ◌&&◌, ◌||◌, ◌==◌, not, Bool, true, false, if◌then◌else◌, Option, Some, None, is_some, option_map}
use Rattle.ace_clauses.specs.declared.letters.Letter.{Letter}
use Rattle.ace_clauses.specs.declared.letters.Letter.TheVariants as letter
use Rattle.ace_codes.specs.Responses.{is_shared, passes_dirty}
use Rattle.ace_codes.specs.Snoops.{ac_code, ac_kind_of}
use Rattle.ace_codes.specs.declared.kind.ArKind.{ArKind}
use Rattle.ace_codes.specs.declared.kind.AwKind.{AwKind}
use Rattle.ace_codes.specs.declared.kind.SnoopKind.{SnoopKind}
use Rattle.ace_codes.specs.declared.state.LineState.{LineState}
use Rattle.ace_event.specs.declared.event.Channel.{Channel}
use Rattle.ace_event.specs.declared.event.Channel.TheVariants.{Read, Write}
use Rattle.ace_event.specs.declared.event.Event.{Event}
use Rattle.ace_event.specs.declared.event.Event.TheVariants.{Ar, R, Rk, Aw, W, B, Wk, Ac, Cr, Cd, M, S, L, D}
use Rattle.ace_event.specs.declared.header.Header.{Header}
use Rattle.ace_event.specs.declared.line.Line.{Line}
use Rattle.ace_expected.specs.declared.wanted.Expectation.{Expectation}
use Rattle.ace_expected.specs.declared.wanted.Expectation.TheVariants.{State, Answer, Number, Sent, Data}
use Rattle.ace_expected.specs.declared.wanted.StateTable.TheVariants.{ReadStart, WriteStart, ReadEnd, WriteEnd, Silent, Load, Store}
use Rattle.ace_expected.specs.declared.wanted.Width.TheVariants.{Digit, Strobe, Word}
use Rattle.ace_model.specs.Copies.{copy_of, word_of}
use Rattle.ace_model.specs.Exclusives.{has_failed}
use Rattle.ace_model.specs.Grants.{granted}
use Rattle.ace_model.specs.Kinds.{beats_of}
use Rattle.ace_model.specs.ReadRules.{held_of}
use Rattle.ace_model.specs.Replies.{next_sent_beat, passed_data, reply_of}
use Rattle.ace_model.specs.Snoops.{answered}
use Rattle.ace_model.specs.States.{state_of}
use Rattle.ace_model.specs.Trace.{Trace, is_some_and}
use Rattle.ace_model.specs.Transactions.{acknowledged, is_ace, is_read, issued, outstanding, read_kind, snoop_of, write_kind}
use Rattle.ace_model.specs.WriteRules.{data_of}
use Rattle.ace_model.specs.Writes.{next_write, next_write_beat}
use Rattle.ace_model.specs.declared.snoops.Snoop.{Snoop}
use Rattle.ace_model.specs.declared.transactions.Transaction.{Transaction}
use Rattle.ace_portck.specs.Targets.{data_of_write, progress_of}
use Rattle.ace_portck.specs.declared.target.Progress.{Progress}

-- ---- states

-- K6: a start state of the kind, and the state that the port holds
abbrev pub start_of : Header → Trace → Transaction → Option ArKind
    → Option AwKind → Option Expectation
start_of h past x (Some kind) write = Some (State (ReadStart kind) (state_of h past x.port x.addr))
start_of h past x None (Some kind) = Some (State (WriteStart kind) (state_of h past x.port x.addr))
start_of h past x None None = None

abbrev pub start : Header → Trace → Option Transaction → Option Expectation
start h past None = None
start h past (Some x) = start_of h past x (read_kind x) (write_kind x)

-- the outstanding read of this name is an exclusive store that failed
abbrev pub fails : Header → Trace → ℕ → ℕ → Bool
fails h past p i = is_some_and (outstanding h past p Read i) (has_failed past)

-- K23: an end state of the read
abbrev pub read_end_of : Header → Trace → Progress → Option ArKind → LineState → Option Expectation
read_end_of h past x None st = None
read_end_of h past x (Some kind) st =
    Some (State (ReadEnd kind (held_of h past x.transaction) (is_shared x.response)
    (passes_dirty x.response) (fails h past x.transaction.port x.transaction.id)) st)

abbrev pub read_end : Header → Trace → Option Progress → LineState → Option Expectation
read_end h past None st = None
read_end h past (Some x) st = read_end_of h past x (read_kind x.transaction) st

-- K28: an end state of the write
abbrev pub write_end_of : Header → Trace → Progress → Option AwKind → LineState → Option Expectation
write_end_of h past x None st = None
write_end_of h past x (Some kind) st =
    Some (State (WriteEnd kind (held_of h past x.transaction)) st)

abbrev pub write_end : Header → Trace → Option Progress → LineState → Option Expectation
write_end h past None st = None
write_end h past (Some x) st = write_end_of h past x (write_kind x.transaction) st

-- the transaction that an RK or WK of the port acknowledges, and how far it has come
abbrev pub acknowledged_by : Header → Trace → ℕ → Channel → Option Progress
acknowledged_by h past p c =
    option_map (progress_of h past) (if is_ace h p then acknowledged past p c else None)

-- K15 and K16: an answer to the snoop
abbrev pub answer_of : Header → Trace → ℕ → Snoop → Option SnoopKind
    → Bool → ℕ → LineState → Option Expectation
answer_of h past p s None update resp st = None
answer_of h past p s (Some kind) update resp st =
    Some (Answer kind (state_of h past p s.addr) update resp st)

abbrev pub answer : Header → Trace → ℕ → Option Snoop → Bool → ℕ → LineState → Option Expectation
answer h past p None update resp st = None
answer h past p (Some s) update resp st = answer_of h past p s (ac_kind_of s.snoop) update resp st

-- ---- numbers

abbrev pub flag : Bool → ℕ
flag true = 1
flag false = 0

-- whether a beat is the last
abbrev pub last_beat : Bool → Bool → Option Expectation
last_beat expected got = Some (Number Digit (flag expected) (flag got))

-- K11 and K31: the word of the port's copy of the line
abbrev pub copied_word : Trace → ℕ → ℕ → ℕ → ℕ → Option Expectation
copied_word past p l k word = Some (Number Word (word_of (copy_of past p l) k) word)

abbrev pub sent_word : Trace → ℕ → Option Transaction → ℕ → Option Expectation
sent_word past p None word = None
sent_word past p (Some x) word = copied_word past p x.addr (next_write_beat past p) word

-- K11, by its clause: WLAST, all strobes, and the word
abbrev pub of_w : Trace → ℕ → ℕ → Bool → ℕ → Letter → Option Expectation
of_w past p strb last word letter.B = last_beat (next_write_beat past p == 3) last
of_w past p strb last word letter.C = Some (Number Strobe 65535 strb)
of_w past p strb last word letter.D = sent_word past p (next_write past p) word
of_w past p strb last word _ = None

-- K13: the snoop that the granted transaction causes
abbrev pub snoop_code_of : Option SnoopKind → ℕ → Option Expectation
snoop_code_of None snoop = None
snoop_code_of (Some kind) snoop = Some (Number Digit (ac_code kind) snoop)

abbrev pub snoop_code : Option Transaction → ℕ → Option Expectation
snoop_code None snoop = None
snoop_code (Some x) snoop = snoop_code_of (snoop_of x) snoop

-- K18: RLAST
abbrev pub read_last_of : Progress → Option ArKind → Bool → Option Expectation
read_last_of x None last = None
read_last_of x (Some kind) last = last_beat (x.transfers + 1 == beats_of kind) last

abbrev pub read_last : Option Progress → Bool → Option Expectation
read_last None last = None
read_last (Some x) last = read_last_of x (read_kind x.transaction) last

-- K20: the word of the reply to the granted read of the line
abbrev pub reply_word_of : Trace → Progress → Option Transaction → ℕ → Option Expectation
reply_word_of past x None word = None
reply_word_of past x (Some y) word =
    if is_read y.chan then Some (Number Word (word_of (reply_of past y) x.transfers) word) else None

abbrev pub reply_word : Header → Trace → Option Progress → ℕ → Option Expectation
reply_word h past None word = None
reply_word h past (Some x) word = reply_word_of past x (granted h past x.transaction.addr) word

abbrev pub of_reply : Header → Trace → Option Progress → ℕ → Letter → Option Expectation
of_reply h past x word letter.A = Some (Number Word 0 word)
of_reply h past x word letter.B = reply_word h past x word
of_reply h past x word _ = None

-- K17: whether the beat is the last; of its word what came, as the copy at the answer isn't told
abbrev pub of_cd : Trace → ℕ → Bool → ℕ → Letter → Option Expectation
of_cd past p last word letter.B = last_beat (next_sent_beat past p == 3) last
of_cd past p last word letter.C = Some (Sent word)
of_cd past p last word _ = None

-- ---- data

-- K25: what is due to be written to memory, where it is known
abbrev pub due_data : Header → Trace → Transaction → Option Line
due_data h past x =
    if is_read x.chan then passed_data h past x.addr
    else (if is_some (data_of_write past x) then data_of h past x else None)

abbrev pub memory_data : Header → Trace → Option Transaction → Line → Option Expectation
memory_data h past None line = None
memory_data h past (Some x) line = option_map (λ (due : Line). Data due line) (due_data h past x)

-- ---- by the clause

abbrev pub is_a : Letter → Bool
is_a letter.A = true
is_a _ = false

abbrev pub is_b : Letter → Bool
is_b letter.B = true
is_b _ = false

abbrev pub is_c : Letter → Bool
is_c letter.C = true
is_c _ = false

-- what there is, where it is asked for
abbrev pub only : Bool → Option Expectation → Option Expectation
only asked x = if asked then x else None

-- of an R for the read, and of an L
abbrev pub of_r : Header → Trace → Option Progress → Bool → ℕ → ℕ → Letter → Option Expectation
of_r h past x last word k c =
    if k == 18 then only (is_c c) (read_last x last) else only (k == 20) (of_reply h past x word c)

abbrev pub of_l : Header → Trace → ℕ → ℕ → ℕ → ℕ → ℕ → Option Expectation
of_l h past p addr w word k =
    if k == 30 then Some (State Load (state_of h past p addr))
    else only (k == 31) (copied_word past p addr w word)

-- what the clause of rule k expects of the event after the trace, and what it got; nothing where it
-- expects no value
abbrev pub expectation : Header → Trace → Event → ℕ → Letter → Option Expectation
expectation h past (Ar p i addr snoop dom bar lock) k c =
    only (k == 6) (start h past (issued 0 (Ar p i addr snoop dom bar lock)))
expectation h past (Aw p i addr snoop dom bar) k c =
    only (k == 6) (start h past (issued 0 (Aw p i addr snoop dom bar)))
expectation h past (R p i resp last word) k c =
    of_r h past (option_map (progress_of h past) (outstanding h past p Read i)) last word k c
expectation h past (Rk p st) k c =
    only ((k == 23) && not (is_b c)) (read_end h past (acknowledged_by h past p Read) st)
expectation h past (Wk p st) k c =
    only (k == 28) (write_end h past (acknowledged_by h past p Write) st)
expectation h past (W p strb last word) k c = only (k == 11) (of_w past p strb last word c)
expectation h past (B p i resp) k c = only ((k == 26) && is_b c) (Some (Number Digit 0 resp))
expectation h past (Ac p addr snoop) k c =
    only ((k == 13) && is_c c) (snoop_code (granted h past addr) snoop)
expectation h past (Cr p resp st) k c =
    only ((k == 15) || (k == 16)) (answer h past p (answered past p) (k == 16) resp st)
expectation h past (Cd p last word) k c = only (k == 17) (of_cd past p last word c)
expectation h past (M p c i line) k l =
    only (k == 25) (memory_data h past (outstanding h past p c i) line)
expectation h past (S p addr st) k c =
    only ((k == 29) && is_a c) (Some (State (Silent (state_of h past p addr)) st))
expectation h past (L p addr w x word) k c = of_l h past p addr w word k
expectation h past (D p addr strobe x line) k c =
    only ((k == 32) && is_a c) (Some (State Store (state_of h past p addr)))
expectation h past _ k c = None
