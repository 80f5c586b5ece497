-- What acceptance promises of a trace, and how many lines one may name.
use Rattle.std.specs.Prelude.{ℕ, Bool, ◌&&◌, nat_le, length}
use Rattle.ace_event.specs.declared.event.Event.{Event}
use Rattle.ace_event.specs.declared.header.Header.{Header}
use Rattle.ace_model.specs.BarrierHolds.{BarrierHolds}
use Rattle.ace_model.specs.Coherent.{Coherent}
use Rattle.ace_model.specs.DvmHolds.{DvmHolds}
use Rattle.ace_model.specs.ExclusiveHolds.{ExclusiveHolds}
use Rattle.ace_model.specs.Lines.{known_lines, names_new_line}
use Rattle.ace_model.specs.Trace.{Trace, is_some_and}
use Rattle.ace_model.specs.Transactions.{issued}

-- the most lines that the transactions of a trace may name, where no other limit is asked for
abbrev pub most_lines : ℕ
most_lines = 4096

-- the event is an AR or AW that names one line more than so many
abbrev pub goes_over_within : ℕ → Trace → Event → Bool
goes_over_within most past e =
    is_some_and (issued (length past) e) (names_new_line past)
    && nat_le most (length (known_lines past))

-- one more than a trace may have
abbrev pub goes_over : Trace → Event → Bool
goes_over past e = goes_over_within most_lines past e

-- What acceptance promises of a trace.
pub record IsSound (h : Header) (past : Trace) : Type 0 where
  pub coherent : Coherent h past
  pub exclusive : ExclusiveHolds past
  pub barrier : BarrierHolds past
  pub dvm : DvmHolds h past
