-- What contracts see of a live system, and what is kept of its run.
use Rattle.std.specs.Prelude.{ℕ, ◌≡◌, ◌≤◌, ◌+◌, ◌-◌, ◌^◌, List, [], length}
use Rattle.ace_event.specs.declared.header.Header.{Header}
use Rattle.ace_model.specs.Plans.{Plan}
use Rattle.ace_runs.specs.Follows.{Done}
use Rattle.ace_fabric.specs.Runs.{Run}
use Rattle.ace_history.specs.declared.entry.Entry.{Entry}
use Rattle.ace_history.specs.Histories.{history_of}
use Rattle.ace_history.specs.Settled.{IsSettled}
use Rattle.ace_live.specs.declared.setting.Setting.{Setting}

-- what the live system was opened with, and what its calls did
pub record Running : Type 0 where
  pub setting : Setting
  pub history : List Entry

-- the header of version 1 with so many ACE ports
abbrev pub header_of : ℕ → Header
header_of ports = record { version = 1; ports = ports; ace = 2 ^ ports - 1 }

-- the plan of the setting, before its first call
abbrev pub blank : Setting → Plan
blank s =
    record { header = header_of s.ports; ways = s.ways; policy = s.policy; operations = [] }

-- the room that the run began with is what is left and what was used
abbrev pub setting_of : Run → Setting
setting_of run = record {
  ports = run.plan.header.ports;
  ways = run.plan.ways;
  policy = run.plan.policy;
  room = length run.plan.operations + run.room;
}

abbrev pub running : Run → Running
running run = record { setting = setting_of run; history = history_of run.plan run.past }

-- The run is that of a live system between two calls.
pub record IsLive (run : Run) : Type 0 where
  pub header : run.plan.header ≡ header_of run.plan.header.ports
  pub few : run.plan.header.ports ≤ 8
  pub settled : IsSettled run.plan run.past
  pub done : Done run.plan run.past
