-- What there is of the line of an event before it.
use Rattle.std.specs.Prelude.{ℕ, Bool, not, if◌then◌else◌, map, Option, Some, None, option_map}
use Rattle.std.specs.List.{range_with_len}
use Rattle.ace_before.specs.declared.before.LineBefore.{LineBefore}
use Rattle.ace_before.specs.declared.before.PortBefore.{PortBefore}
use Rattle.ace_before.specs.declared.before.SnoopBefore.{SnoopBefore}
use Rattle.ace_before.specs.declared.before.SnoopBefore.TheVariants.{Unsnooped, Unanswered, Short, Answered}
use Rattle.ace_belongs.specs.Belongs.{event_line}
use Rattle.ace_event.specs.declared.event.Event.{Event}
use Rattle.ace_event.specs.declared.header.Header.{Header}
use Rattle.ace_model.specs.AddressRules.{is_aligned}
use Rattle.ace_model.specs.Copies.{copy_of, memory_of}
use Rattle.ace_model.specs.Grants.{grant_place, granted, owes_answer, owes_data, was_snooped}
use Rattle.ace_model.specs.Replies.{passed_data}
use Rattle.ace_model.specs.States.{state_of}
use Rattle.ace_model.specs.Trace.{Trace, option_filter}
use Rattle.ace_model.specs.declared.transactions.Transaction.{Transaction}
use Rattle.ace_portck.specs.Targets.{own_on, progress_of}
use Rattle.ace_since.specs.Places.{memory_since, state_since}

-- how far a snoop has come: whether there was one, and what the port still owes
abbrev pub snoop_by : Bool → Bool → Bool → SnoopBefore
snoop_by snooped answer beats =
    if not snooped then Unsnooped
    else (if answer then Unanswered else (if beats then Short else Answered))

-- under the grant of this transaction, if there is one
abbrev pub snoop_under : Trace → ℕ → ℕ → Option Transaction → SnoopBefore
snoop_under past p l None = Unsnooped
snoop_under past p l (Some x) =
    snoop_by (was_snooped past p l) (owes_answer past p l) (owes_data past p l)

-- what there is of the line at the port
abbrev pub port_before : Header → Trace → ℕ → ℕ → PortBefore
port_before h past l p = record {
  state = state_of h past p l;
  since = state_since h past p l;
  copy = copy_of past p l;
  own = own_on h past p (Some l);
  snoop = snoop_under past p l (granted h past l);
}

-- what there is of the line after the trace
abbrev pub line_before : Header → Trace → ℕ → LineBefore
line_before h past l = record {
  line = l;
  ports = map (port_before h past l) (range_with_len 0 32);
  memory = memory_of past l;
  written = memory_since past l;
  granted = option_map (progress_of h past) (granted h past l);
  grant = grant_place past l;
  passed = passed_data h past l;
}

-- the line that the event is about, where its address is that of a line
abbrev pub named_line : Header → Trace → Event → Option ℕ
named_line h past e = option_filter is_aligned (event_line h past e)

-- what there is of that line before the event
abbrev pub before_event : Header → Trace → Event → Option LineBefore
before_event h past e = option_map (line_before h past) (named_line h past e)
