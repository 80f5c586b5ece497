-- The states in which a port may hold the line after a transaction (Arm IHI 0022E, C4).
use Rattle.std.specs.Prelude.{Bool, true, false, List, [], ◌∷◌}
use Rattle.ace_codes.specs.declared.state.LineState.{LineState}
use Rattle.ace_codes.specs.declared.state.LineState.TheVariants.{I, UC, UD, SC, SD}
use Rattle.ace_codes.specs.declared.kind.ArKind.{ArKind}
use Rattle.ace_codes.specs.declared.kind.ArKind.TheVariants as read
use Rattle.ace_codes.specs.declared.kind.AwKind.{AwKind}
use Rattle.ace_codes.specs.declared.kind.AwKind.TheVariants as write
use Rattle.ace_tables.specs.States.{is_among}

-- reads that fetch a line to keep
abbrev pub is_fetch : ArKind → Bool
is_fetch read.ReadClean = true
is_fetch read.ReadNotSharedDirty = true
is_fetch read.ReadShared = true
is_fetch read.ReadUnique = true
is_fetch _ = false

-- reads that bring no line into a cache
abbrev pub is_unheld : ArKind → Bool
is_unheld read.ReadNoSnoop = true
is_unheld read.CleanInvalid = true
is_unheld read.MakeInvalid = true
is_unheld read.Barrier = true
is_unheld read.DvmComplete = true
is_unheld read.DvmMessage = true
is_unheld _ = false

-- of a read: by its kind, the state held at its end, IsShared and PassDirty of its response, and
-- whether it is an exclusive store that failed. Barriers and DVM hold no line, which is I.
abbrev pub end_states_of_read : ArKind → LineState → Bool → Bool → Bool → List LineState
end_states_of_read read.ReadClean I false false failed = UC ∷ SC ∷ I ∷ []
end_states_of_read read.ReadNotSharedDirty I false false failed = UC ∷ SC ∷ I ∷ []
end_states_of_read read.ReadShared I false false failed = UC ∷ SC ∷ I ∷ []
end_states_of_read read.ReadUnique I false false failed = UC ∷ SC ∷ I ∷ []
end_states_of_read read.ReadClean I true false failed = SC ∷ I ∷ []
end_states_of_read read.ReadNotSharedDirty I true false failed = SC ∷ I ∷ []
end_states_of_read read.ReadShared I true false failed = SC ∷ I ∷ []
end_states_of_read read.ReadNotSharedDirty I false true failed = UD ∷ SD ∷ []
end_states_of_read read.ReadShared I false true failed = UD ∷ SD ∷ []
end_states_of_read read.ReadUnique I false true failed = UD ∷ SD ∷ []
end_states_of_read read.ReadShared I true true failed = SD ∷ []
end_states_of_read read.CleanUnique I false false false = I ∷ []
end_states_of_read read.CleanUnique SC false false false = UC ∷ SC ∷ I ∷ []
end_states_of_read read.CleanUnique SD false false false = UD ∷ SD ∷ []
end_states_of_read read.CleanUnique I false false true = I ∷ []
end_states_of_read read.CleanUnique SC false false true = SC ∷ I ∷ []
end_states_of_read read.CleanUnique SD false false true = SD ∷ []
end_states_of_read read.MakeUnique I false false failed = UD ∷ []
end_states_of_read read.MakeUnique SC false false failed = UD ∷ []
end_states_of_read read.MakeUnique SD false false failed = UD ∷ []
end_states_of_read read.CleanShared I shared false failed = I ∷ []
end_states_of_read read.CleanShared UC false false failed = UC ∷ SC ∷ I ∷ []
end_states_of_read read.CleanShared SC false false failed = UC ∷ SC ∷ I ∷ []
end_states_of_read read.CleanShared UC true false failed = SC ∷ I ∷ []
end_states_of_read read.CleanShared SC true false failed = SC ∷ I ∷ []
end_states_of_read read.ReadOnce I shared false failed = I ∷ []
end_states_of_read read.ReadNoSnoop I false false failed = I ∷ []
end_states_of_read read.CleanInvalid I false false failed = I ∷ []
end_states_of_read read.MakeInvalid I false false failed = I ∷ []
end_states_of_read read.Barrier I false false failed = I ∷ []
end_states_of_read read.DvmComplete I false false failed = I ∷ []
end_states_of_read read.DvmMessage I false false failed = I ∷ []
end_states_of_read _ held shared pass failed = []

-- of a write: by its kind and the state held at its end
abbrev pub end_states_of_write : AwKind → LineState → List LineState
end_states_of_write write.WriteBack held = I ∷ []
end_states_of_write write.WriteEvict held = I ∷ []
end_states_of_write write.Evict held = I ∷ []
end_states_of_write write.WriteClean UD = UC ∷ SC ∷ I ∷ []
end_states_of_write write.WriteClean SD = SC ∷ I ∷ []
end_states_of_write write.WriteClean _ = []
end_states_of_write write.WriteUnique held = I ∷ []
end_states_of_write write.WriteLineUnique held = I ∷ []
end_states_of_write write.WriteNoSnoop held = I ∷ []
end_states_of_write write.Barrier held = I ∷ []

-- a read may end in the last state
abbrev pub ends_read : ArKind → LineState → Bool → Bool → Bool → LineState → Bool
ends_read kind held shared pass failed st =
    is_among st (end_states_of_read kind held shared pass failed)

-- a write may end in the last state
abbrev pub ends_write : AwKind → LineState → LineState → Bool
ends_write kind held st = is_among st (end_states_of_write kind held)
