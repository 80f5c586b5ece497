-- When a trace follows a plan. Each demand but that on the end is one on an event after the events
-- before it, so a trace that follows a plan so far does so at each of its points.
use Rattle.std.specs.Prelude.{ℕ, ◌≡◌, ◌/◌, ◌%◌, ◌^◌, Bool, true, not, ◌&&◌, ◌==◌, nat_le, nat_lt, [], ◌∷◌, length, slice_get, Option, is_none, ⊤}
use Rattle.std.specs.List.{list_all}
use Rattle.ace_codes.specs.declared.state.LineState.{LineState}
use Rattle.ace_codes.specs.declared.kind.SnoopKind.{SnoopKind}
use Rattle.ace_codes.specs.Snoops.{ac_kind_of}
use Rattle.ace_event.specs.declared.event.Event.{Event}
use Rattle.ace_event.specs.declared.event.Event.TheVariants.{W, Cr, Op}
use Rattle.ace_event.specs.declared.line.Line.{Line}
use Rattle.ace_tables.specs.declared.rows.Row.{Row}
use Rattle.ace_tables.specs.States.{same_state}
use Rattle.ace_tables.specs.Picks.{keep_row, eager_row}
use Rattle.ace_model.specs.declared.plans.PolicyWord.{PolicyWord}
use Rattle.ace_model.specs.declared.plans.PolicyWord.TheVariants.{Keep, Eager, Mixed}
use Rattle.ace_model.specs.declared.snoops.Snoop.{Snoop}
use Rattle.ace_model.specs.declared.transactions.Transaction.{Transaction}
use Rattle.ace_model.specs.Trace.{Trace, port_of, implies, is_some_and, is_none_or}
use Rattle.ace_model.specs.Kinds.{is_line_snoop}
use Rattle.ace_model.specs.Transactions.{is_outstanding, some_issued}
use Rattle.ace_model.specs.Progress.{has_update}
use Rattle.ace_model.specs.Writes.{next_write, next_write_beat}
use Rattle.ace_model.specs.Snoops.{answered}
use Rattle.ace_model.specs.Grants.{ports_below}
use Rattle.ace_model.specs.States.{state_of}
use Rattle.ace_model.specs.Copies.{word_of}
use Rattle.ace_model.specs.Values.{stores_data}
use Rattle.ace_model.specs.Messages.{answered_syncs, dvm_completes}
use Rattle.ace_model.specs.OrderRules.{retired}
use Rattle.ace_model.specs.Plans.{Plan}
use Rattle.ace_runs.specs.Operations.{operations_of, next_operation, operation_behind}
use Rattle.ace_runs.specs.Acts.{is_act, acts_of, data_of_operation}
use Rattle.ace_runs.specs.Segments.{acts_made}
use Rattle.ace_runs.specs.Retiring.{may_retire}
use Rattle.ace_runs.specs.HeldLines.{held_lines}

-- An OP retires the port's next operation, with an outcome that it may have.
abbrev pub retires_well : Plan → Trace → Event → Bool
retires_well plan past (Op p k res) =
    is_some_and (next_operation plan past p) (λ op. may_retire plan.header past p op res)
retires_well plan past _ = true

-- the event is the next act of the port's next operation
abbrev pub is_next_act : Plan → Trace → Event → ℕ → Bool
is_next_act plan past e p =
    is_some_and (next_operation plan past p) (λ op. is_some_and
    (slice_get (acts_of op) (acts_made past p)) (λ fits. fits e))

-- An act is the next one of its port's next operation.
abbrev pub acts_well : Plan → Trace → Event → Bool
acts_well plan past e = implies (is_act e) (is_some_and (port_of e) (is_next_act plan past e))

-- beat k of the line, with its strobes
abbrev pub is_beat_of : ℕ → ℕ → ℕ → ℕ × Line → Bool
is_beat_of k strb word carried =
    (strb == carried.0 / 65536 ^ k % 65536) && (word == word_of carried.1 k)

abbrev pub carries : Plan → Trace → ℕ → ℕ → ℕ → Transaction → Bool
carries plan past p strb word x =
    implies (stores_data x) (is_some_and (operation_behind plan past x)
    (λ op. is_some_and (data_of_operation op) (is_beat_of (next_write_beat past p) strb word)))

-- A W of a WriteUnique, WriteLineUnique or WriteNoSnoop carries the data of the operation for which
-- that was issued.
abbrev pub carries_data : Plan → Trace → Event → Bool
carries_data plan past (W p strb last word) =
    is_none_or (next_write past p) (carries plan past p strb word)
carries_data plan past _ = true

abbrev pub is_row : Option Row → ℕ → LineState → Bool
is_row row resp st = is_some_and row (λ r. (r.resp == resp) && same_state r.next st)

-- the answer is the one that the policy picks
abbrev pub is_picked : PolicyWord → SnoopKind → LineState → Bool → ℕ → LineState → Bool
is_picked Keep k held update resp st = is_row (keep_row k held update) resp st
is_picked Eager k held update resp st = is_row (eager_row k held update) resp st
is_picked (Mixed n) k held update resp st = true

abbrev pub picks : Plan → Trace → ℕ → ℕ → LineState → Snoop → Bool
picks plan past p resp st s =
    is_none_or (ac_kind_of s.snoop) (λ k. implies (is_line_snoop k)
    (is_picked plan.policy k (state_of plan.header past p s.addr)
    (has_update plan.header past p s.addr) resp st))

-- A CR to a line snoop is the row that the plan's policy picks.
abbrev pub answers_well : Plan → Trace → Event → Bool
answers_well plan past (Cr p resp st) = is_none_or (answered past p) (picks plan past p resp st)
answers_well plan past _ = true

-- The event leaves its port with no more lines than the plan has ways.
abbrev pub has_room_after : Plan → Trace → Event → Bool
has_room_after plan past e =
    is_none_or (port_of e) (λ p. nat_le (length (held_lines plan.header (e ∷ past) p)) plan.ways)

-- after the trace, the event is one of a trace that follows the plan
abbrev pub obeys : Plan → Trace → Event → Bool
obeys plan past e =
    retires_well plan past e && acts_well plan past e && carries_data plan past e
    && answers_well plan past e
    && has_room_after plan past e

-- the test holds of each event after the events before it
abbrev pub each_event : (Trace → Event → Bool) → Trace → Bool
each_event test [] = true
each_event test (e ∷ past) = each_event test past && test past e

abbrev pub EachEvent : (Trace → Event → Bool) → Trace → Type 0
EachEvent test [] = ⊤
EachEvent test (e ∷ past) = EachEvent test past × (test past e ≡ true)

-- The trace follows the plan so far.
abbrev pub FollowsSoFar : Plan → Trace → Type 0
FollowsSoFar plan past = EachEvent (obeys plan) past

abbrev pub follows_so_far : Plan → Trace → Bool
follows_so_far plan past = each_event (obeys plan) past

-- the port has answered more Syncs than it has issued DVM Completes
abbrev pub owes_completion : Trace → ℕ → Bool
owes_completion past p = nat_lt (dvm_completes past p) (answered_syncs past p)

-- nothing is left to do for the port: its operations have retired, it has answered its snoops, and
-- it owes no DVM Complete
abbrev pub is_port_at_end : Plan → Trace → ℕ → Bool
is_port_at_end plan past p =
    nat_le (length (operations_of plan p)) (retired past p) && is_none (answered past p)
    && not (owes_completion past p)

-- every operation has its OP, no transaction is outstanding, no AC is unanswered, and no DVM
-- Complete is owed
abbrev pub is_done : Plan → Trace → Bool
is_done plan past =
    list_all (is_port_at_end plan past) (ports_below plan.header.ports)
    && not (some_issued past (is_outstanding plan.header past))

abbrev pub Done : Plan → Trace → Type 0
Done plan past = is_done plan past ≡ true

-- The trace follows the plan: it does so far, and nothing is left to do.
abbrev pub Follows : Plan → Trace → Type 0
Follows plan past = FollowsSoFar plan past × Done plan past

abbrev pub follows : Plan → Trace → Bool
follows plan past = follows_so_far plan past && is_done plan past
