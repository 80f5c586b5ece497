-- What is left to do in a run.
use Rattle.std.specs.Prelude.{ℕ, ◌≡◌, ◌+◌, ◌-◌, Bool, ◌&&◌, ◌==◌, min, List, length, Option, Some, None, slice_get}
use Rattle.ace_event.specs.declared.event.Channel.TheVariants.{Read, Write}
use Rattle.ace_event.specs.declared.event.Event.{Event}
use Rattle.ace_event.specs.declared.event.Event.TheVariants.{Ac, Cr, Op}
use Rattle.ace_model.specs.OrderRules.{retired}
use Rattle.ace_model.specs.Plans.{Plan}
use Rattle.ace_model.specs.Snoops.{answers, snoops_of}
use Rattle.ace_model.specs.Trace.{Trace}
use Rattle.ace_runs.specs.Follows.{is_port_at_end}
use Rattle.ace_runs.specs.Operations.{operations_of}
use Rattle.ace_engine.specs.Engines.{IsLegal}
use Rattle.ace_engine.specs.Rooms.{most_lines, most_snoops}
use Rattle.ace_portck.specs.Pending.{pending_of}
use Rattle.ace_portck.specs.Stands as of_ports
use Rattle.ace_sysck.specs.Stands as of_system
use Rattle.ace_fabric.specs.declared.left.Left.{Left}
use Rattle.ace_fabric.specs.declared.left.PortLeft.{PortLeft}

-- what is left of the port: its operations that haven't retired, and its snoops without an answer
pub record PortStands (plan : Plan) (past : Trace) (p : ℕ) (s : PortLeft) : Type 0 where
  pub operations : s.operations ≡ length (operations_of plan p) - retired past p
  pub snoops : s.snoops ≡ length (snoops_of past p) - answers past p

-- what is left of a port after an event of it
abbrev pub left_after : Event → PortLeft → PortLeft
left_after (Op q k res) s = record { operations = s.operations - 1; snoops = s.snoops }
left_after (Ac q addr snoop) s =
    record { operations = s.operations; snoops = min (s.snoops + 1) 65535 }
left_after (Cr q resp st) s = record { operations = s.operations; snoops = s.snoops - 1 }
left_after _ s = s

-- what is left of a port that has one more operation
abbrev pub with_one_more : PortLeft → PortLeft
with_one_more s = record { operations = min (s.operations + 1) 65535; snoops = s.snoops }

-- the port of whose operations and snoops something is counted at the event
abbrev pub counted_port : Event → Option ℕ
counted_port (Op q k res) = Some q
counted_port (Ac q addr snoop) = Some q
counted_port (Cr q resp st) = Some q
counted_port _ = None

-- the counts are those of the ports
abbrev pub CountsStand : Plan → Trace → List PortLeft → Type 0
CountsStand plan past counts =
    (p : ℕ) (k : PortLeft) → slice_get counts p ≡ Some k → PortStands plan past p k

-- It is what is left in a run of the plan, with room for what comes.
pub record LeftStands (s : Left) (plan : Plan) (past : Trace) : Type 0 where
  pub legal : IsLegal plan past
  pub ports : of_ports.Stands s.ports (record { header = plan.header; past = past })
  pub room : of_ports.IsRoomy most_snoops s.ports
  pub system : of_system.Stands s.system (record { header = plan.header; past = past })
  pub lines : of_system.IsRoomy most_lines past s.system
  pub count : length s.counts.items ≡ plan.header.ports
  pub counts : CountsStand plan past s.counts.items

abbrev pub is_empty : {A : Type 0} → List A → Bool
is_empty xs = length xs == 0

-- nothing is left of the port, nor any transaction of it outstanding
abbrev pub is_port_done : Plan → Trace → ℕ → Bool
is_port_done plan past p =
    is_port_at_end plan past p && (is_empty (pending_of plan.header past p Read)
    && is_empty (pending_of plan.header past p Write))
