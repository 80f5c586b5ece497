-- Grants: the interconnect gives a line to one transaction at a time, snoops under this grant, and
-- answers the transaction once its snoops are done. That every answer comes before the first
-- transfer is our choice.
use Rattle.std.specs.Prelude.{ℕ, zero, suc, ◌+◌, ◌*◌, Bool, false, not, ◌&&◌, ◌||◌, ◌==◌, nat_le, if◌then◌else◌, List, [], ◌∷◌, find, Option, Some, None, length, is_some, is_none}
use Rattle.std.specs.List.{list_any}
use Rattle.ace_event.specs.declared.header.Header.{Header}
use Rattle.ace_event.specs.declared.event.Channel.{Channel}
use Rattle.ace_event.specs.declared.event.Event.{Event}
use Rattle.ace_event.specs.declared.event.Event.TheVariants.{Ac, Cr, G}
use Rattle.ace_model.specs.declared.transactions.Transaction.{Transaction}
use Rattle.ace_model.specs.declared.snoops.Answer.{Answer}
use Rattle.ace_model.specs.Trace.{Trace, is_some_and, newer}
use Rattle.ace_codes.specs.Responses.{transfers_data, passes_dirty, is_shared}
use Rattle.ace_model.specs.Transactions.{is_named, is_transaction, is_read, is_on, is_some_on, has_since, transaction_of, ended, without, transfers}
use Rattle.ace_model.specs.Writes.{has_memory_write}
use Rattle.ace_model.specs.Snoops.{answered, is_snoop_on, snoops_a_line, data_answers, data_beats}

-- the transaction that the event grants
abbrev pub given : Trace → Event → Option Transaction
given past (G p c i) = transaction_of past p c i
given past _ = None

-- the event grants the line
abbrev pub gives_line : Trace → Event → ℕ → Bool
gives_line past e l = is_some_on (given past e) l

-- the first one, where it is on the line, else the older one
abbrev pub newest_on : Option Transaction → ℕ → Option Transaction → Option Transaction
newest_on None l older = older
newest_on (Some x) l older = if is_on x l then Some x else older

-- the transaction that is granted on the line: from its G until it is no longer outstanding
abbrev pub granted : Header → Trace → ℕ → Option Transaction
granted h [] l = None
granted h (e ∷ past) l = newest_on (given past e) l (without (ended h past e) (granted h past l))

abbrev pub is_granted : Header → Trace → Transaction → Bool
is_granted h past x = is_transaction (granted h past x.addr) x

-- the port's last transaction on the channel under the identifier has had its G
abbrev pub has_grant : Trace → ℕ → Channel → ℕ → Bool
has_grant past p c i = has_since (λ before e. is_named (given before e)) past p c i

-- it has had its first R or, if it is a write, its M
abbrev pub is_begun : Trace → Transaction → Bool
is_begun past x =
    if is_read x.chan then not (transfers past x.port x.id == 0)
    else has_memory_write past x.port x.chan x.id

-- how many events came before the present grant of the line, the last G on it among them
abbrev pub grant_place : Trace → ℕ → ℕ
grant_place [] l = 0
grant_place (e ∷ past) l = if gives_line past e l then length past + 1 else grant_place past l

-- the event is a snoop of the port on the line
abbrev pub is_snoop_to : Event → ℕ → ℕ → Bool
is_snoop_to (Ac q addr snoop) p l = (p == q) && snoops_a_line snoop && (l == addr)
is_snoop_to _ p l = false

-- the port was snooped under the present grant of the line
abbrev pub was_snooped : Trace → ℕ → ℕ → Bool
was_snooped [] p l = false
was_snooped (e ∷ past) p l =
    if gives_line past e l then false else is_snoop_to e p l || was_snooped past p l

-- the port's next CR answers a snoop under the present grant of the line
abbrev pub answers_grant : Trace → ℕ → ℕ → Bool
answers_grant past p l =
    is_some_and (answered past p) (λ s. is_snoop_on s l && nat_le (grant_place past l) s.place)

-- the port's answer under the present grant of the line, which the event is
abbrev pub answer_at : Trace → Event → ℕ → ℕ → Option Answer
answer_at past (Cr q resp st) p l =
    if (p == q) && answers_grant past p l
    then Some (record { place = length past; resp = resp; bursts = data_answers past p })
    else None
answer_at past _ p l = None

-- the port's answer under the present grant of the line; it is snooped once under a grant
abbrev pub answer_of : Trace → ℕ → ℕ → Option Answer
answer_of [] p l = None
answer_of (e ∷ past) p l =
    if gives_line past e l then None else newer (answer_at past e p l) (answer_of past p l)

-- the answer announces data, and their CD burst isn't whole
abbrev pub is_short : Trace → ℕ → Answer → Bool
is_short past p a = transfers_data a.resp && not (nat_le (4 * (a.bursts + 1)) (data_beats past p))

-- the port's answer under the grant announced data that aren't whole
abbrev pub owes_data : Trace → ℕ → ℕ → Bool
owes_data past p l = is_some_and (answer_of past p l) (λ a. is_short past p a)

-- the port's snoop under the grant is unanswered
abbrev pub owes_answer : Trace → ℕ → ℕ → Bool
owes_answer past p l = was_snooped past p l && is_none (answer_of past p l)

-- the ports below n, the last first
abbrev pub ports_below : ℕ → List ℕ
ports_below zero = []
ports_below (suc n) = n ∷ ports_below n

-- the port's answer under the grant has IsShared
abbrev pub shares : Trace → ℕ → ℕ → Bool
shares past l p = is_some_and (answer_of past p l) (λ a. is_shared a.resp)

-- the port's answer under the grant has PassDirty
abbrev pub passes : Trace → ℕ → ℕ → Bool
passes past l p = is_some_and (answer_of past p l) (λ a. passes_dirty a.resp)

-- an answer under the grant of the line has IsShared
abbrev pub has_sharer : Header → Trace → ℕ → Bool
has_sharer h past l = list_any (shares past l) (ports_below h.ports)

-- the port that answered with PassDirty under the grant of the line
abbrev pub passer : Header → Trace → ℕ → Option ℕ
passer h past l = find (passes past l) (ports_below h.ports)

-- the granted transaction has passed data: they are there until its M, or until it is no longer
-- outstanding
abbrev pub has_passed_data : Header → Trace → Transaction → Bool
has_passed_data h past x =
    is_granted h past x && is_some (passer h past x.addr)
    && not (has_memory_write past x.port x.chan x.id)

-- and their CD burst is whole
abbrev pub are_passed_data_whole : Header → Trace → Transaction → Bool
are_passed_data_whole h past x =
    is_some_and (passer h past x.addr) (λ p. not (owes_data past p x.addr))
