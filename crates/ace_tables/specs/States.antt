-- The states of a line (Arm IHI 0022E, C1.2.3), and sets of them. A table writes a set as the list
-- of its states.
use Rattle.std.specs.Prelude.{Bool, true, false, List}
use Rattle.std.specs.List.{list_any}
use Rattle.ace_codes.specs.declared.state.LineState.{LineState}
use Rattle.ace_codes.specs.declared.state.LineState.TheVariants.{I, UC, UD, SC, SD}

abbrev pub is_invalid : LineState → Bool
is_invalid I = true
is_invalid _ = false

abbrev pub is_dirty : LineState → Bool
is_dirty UD = true
is_dirty SD = true
is_dirty _ = false

abbrev pub is_unique : LineState → Bool
is_unique UC = true
is_unique UD = true
is_unique _ = false

abbrev pub same_state : LineState → LineState → Bool
same_state I I = true
same_state UC UC = true
same_state UD UD = true
same_state SC SC = true
same_state SD SD = true
same_state _ _ = false

-- the state is one of these
abbrev pub is_among : LineState → List LineState → Bool
is_among st states = list_any (same_state st) states
