-- What the tables of states allow.
use Rattle.std.specs.Prelude.{Bool, not}
use Rattle.ace_codes.specs.declared.state.LineState.{LineState}
use Rattle.ace_expected.specs.declared.wanted.StateTable.{StateTable}
use Rattle.ace_expected.specs.declared.wanted.StateTable.TheVariants.{ReadStart, WriteStart, ReadEnd, WriteEnd, Silent, Load, Store}
use Rattle.ace_tables.specs.EndStates.{ends_read, ends_write}
use Rattle.ace_tables.specs.SilentTransitions.{is_silent_move}
use Rattle.ace_tables.specs.StartStates.{starts_read, starts_write}
use Rattle.ace_tables.specs.States.{is_invalid, is_unique}

-- the state is one that the table allows
abbrev pub allows : StateTable → LineState → Bool
allows (ReadStart kind) st = starts_read kind st
allows (WriteStart kind) st = starts_write kind st
allows (ReadEnd kind held shared pass failed) st = ends_read kind held shared pass failed st
allows (WriteEnd kind held) st = ends_write kind held st
allows (Silent held) st = is_silent_move held st
allows Load st = not (is_invalid st)
allows Store st = is_unique st
