-- The states that a port may hold of the line where it issues a transaction (Arm IHI 0022E, C4; our
-- choice of them). Barriers and DVM have no line and so no row.
use Rattle.std.specs.Prelude.{Bool, List, [], ◌∷◌}
use Rattle.ace_codes.specs.declared.state.LineState.{LineState}
use Rattle.ace_codes.specs.declared.state.LineState.TheVariants.{I, UC, UD, SC, SD}
use Rattle.ace_codes.specs.declared.kind.ArKind.{ArKind}
use Rattle.ace_codes.specs.declared.kind.ArKind.TheVariants as read
use Rattle.ace_codes.specs.declared.kind.AwKind.{AwKind}
use Rattle.ace_codes.specs.declared.kind.AwKind.TheVariants as write
use Rattle.ace_tables.specs.States.{is_among}

abbrev pub start_states_of_read : ArKind → List LineState
start_states_of_read read.ReadNoSnoop = I ∷ []
start_states_of_read read.ReadOnce = I ∷ []
start_states_of_read read.ReadShared = I ∷ []
start_states_of_read read.ReadClean = I ∷ []
start_states_of_read read.ReadNotSharedDirty = I ∷ []
start_states_of_read read.ReadUnique = I ∷ []
start_states_of_read read.CleanInvalid = I ∷ []
start_states_of_read read.MakeInvalid = I ∷ []
start_states_of_read read.CleanUnique = SC ∷ SD ∷ []
start_states_of_read read.MakeUnique = I ∷ SC ∷ SD ∷ []
start_states_of_read read.CleanShared = I ∷ SC ∷ UC ∷ []
start_states_of_read _ = []

abbrev pub start_states_of_write : AwKind → List LineState
start_states_of_write write.WriteNoSnoop = I ∷ []
start_states_of_write write.WriteUnique = I ∷ []
start_states_of_write write.WriteLineUnique = I ∷ []
start_states_of_write write.WriteBack = UD ∷ SD ∷ []
start_states_of_write write.WriteClean = UD ∷ SD ∷ []
start_states_of_write write.WriteEvict = UC ∷ []
start_states_of_write write.Evict = UC ∷ SC ∷ []
start_states_of_write _ = []

-- a read of this kind may start from this state
abbrev pub starts_read : ArKind → LineState → Bool
starts_read kind held = is_among held (start_states_of_read kind)

-- a write of this kind may start from this state
abbrev pub starts_write : AwKind → LineState → Bool
starts_write kind held = is_among held (start_states_of_write kind)
