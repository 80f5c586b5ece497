-- The points that there are, in groups: the rows of the tables that a trace can take.
use Rattle.std.specs.Prelude.{Bool, true, false, not, if◌then◌else◌, List, [], ◌∷◌, ◌++◌, map}
use Rattle.std.specs.List.{filter, flat_map}
use Rattle.ace_codes.specs.declared.kind.ArKind.{ArKind}
use Rattle.ace_codes.specs.declared.kind.ArKind.TheVariants as read
use Rattle.ace_codes.specs.declared.kind.AwKind.{AwKind}
use Rattle.ace_codes.specs.declared.kind.AwKind.TheVariants as write
use Rattle.ace_codes.specs.declared.kind.SnoopKind.{SnoopKind}
use Rattle.ace_codes.specs.declared.kind.SnoopKind.TheVariants as snoop
use Rattle.ace_codes.specs.declared.state.LineState.{LineState}
use Rattle.ace_codes.specs.declared.state.LineState.TheVariants.{I, UC, UD, SC, SD}
use Rattle.ace_model.specs.Kinds.{is_line_read, is_line_snoop, is_lite_read, is_lite_write, is_clean_unique}
use Rattle.ace_tables.specs.Answers.{goes_with_update, snoop_rows}
use Rattle.ace_tables.specs.EndStates.{end_states_of_read, end_states_of_write}
use Rattle.ace_tables.specs.SilentTransitions.{is_silent_move}
use Rattle.ace_tables.specs.StartStates.{start_states_of_read, start_states_of_write}
use Rattle.ace_tables.specs.States.{is_invalid}
use Rattle.ace_tables.specs.declared.rows.Row.{Row}
use Rattle.ace_points.specs.declared.point.Point.{Point}
use Rattle.ace_points.specs.declared.situation.Situation.TheVariants as situation
use Rattle.ace_points.specs.declared.point.Point.TheVariants.{Read, Write, Exclusive, ExclusiveStore, Barrier, SecondPart, Sync, Bar, Domain, ReadStart, WriteStart, ReadEnd, WriteEnd, Answer, AnswerWithUpdate, Silent, Rule, Met}

abbrev pub states : List LineState
states = I ∷ UC ∷ UD ∷ SC ∷ SD ∷ []

abbrev pub bits : List Bool
bits = false ∷ true ∷ []

abbrev pub reads : List ArKind
reads =
    read.ReadNoSnoop ∷ read.ReadOnce ∷ read.ReadShared ∷ read.ReadClean
    ∷ read.ReadNotSharedDirty ∷ read.ReadUnique ∷ read.CleanUnique
    ∷ read.MakeUnique ∷ read.CleanShared ∷ read.CleanInvalid ∷ read.MakeInvalid
    ∷ read.DvmMessage ∷ read.DvmComplete ∷ read.Barrier ∷ []

-- the kinds of writes; a barrier is counted at its read half
abbrev pub writes : List AwKind
writes =
    write.WriteNoSnoop ∷ write.WriteUnique ∷ write.WriteLineUnique
    ∷ write.WriteClean ∷ write.WriteBack ∷ write.Evict ∷ write.WriteEvict ∷ []

abbrev pub snoops : List SnoopKind
snoops =
    snoop.ReadOnce ∷ snoop.ReadShared ∷ snoop.ReadClean ∷ snoop.ReadNotSharedDirty
    ∷ snoop.ReadUnique ∷ snoop.CleanShared
    ∷ snoop.CleanInvalid ∷ snoop.MakeInvalid ∷ snoop.DvmComplete ∷ snoop.DvmMessage ∷ []

-- each kind at an ACE port; each that an ACE-Lite port may issue at one; exclusive loads, and
-- exclusive stores that pass and fail; barriers by their AxBAR; DVM messages of two parts, and
-- Syncs; accesses that ignore barriers; and the domains that are less usual
abbrev pub transaction_points : List Point
transaction_points =
    map (λ kind. Read true kind) reads
    ++ map (λ kind. Write true kind) writes
    ++ map (λ kind. Read false kind) (filter is_lite_read reads)
    ++ map (λ kind. Write false kind) (filter is_lite_write writes)
    ++ (Exclusive read.ReadShared ∷ Exclusive read.ReadClean ∷ ExclusiveStore true
    ∷ ExclusiveStore false
    ∷ Barrier true 1 ∷ Barrier true 3 ∷ Barrier false 1 ∷ Barrier false 3
    ∷ SecondPart ∷ Sync ∷ Bar 2 ∷ Domain 2 ∷ Domain 3 ∷ [])

-- each state from which a kind may start
abbrev pub start_points : List Point
start_points =
    flat_map (λ kind. map (λ held. ReadStart kind held) (start_states_of_read kind)) reads
    ++ flat_map (λ kind. map (λ held. WriteStart kind held) (start_states_of_write kind)) writes

-- only an exclusive store can fail
abbrev pub failings : ArKind → List Bool
failings kind = if is_clean_unique kind then bits else false ∷ []

abbrev pub read_ends_with : ArKind → LineState → Bool → Bool → Bool → List Point
read_ends_with kind held shared dirty failed =
    map (λ end. ReadEnd kind failed held shared dirty end)
    (end_states_of_read kind held shared dirty failed)

abbrev pub read_ends_from : ArKind → LineState → List Point
read_ends_from kind held =
    flat_map (λ shared. flat_map (λ dirty. flat_map (read_ends_with kind held shared dirty)
    (failings kind)) bits) bits

-- each end of a line read that may come: by its kind, the state held, and its response
abbrev pub read_end_points : List Point
read_end_points =
    flat_map (λ kind. flat_map (read_ends_from kind) states) (filter is_line_read reads)

-- the states in which the port of a write can hold the line at its end: the snoops that it answers
-- meanwhile can share a line that it gives up clean, or take it
abbrev pub held_at_end : AwKind → List LineState
held_at_end write.WriteClean = UD ∷ SD ∷ []
held_at_end write.WriteBack = UD ∷ SD ∷ []
held_at_end write.WriteEvict = UC ∷ SC ∷ []
held_at_end write.Evict = UC ∷ SC ∷ I ∷ []
held_at_end kind = I ∷ []

-- each end of a write that may come
abbrev pub write_end_points : List Point
write_end_points =
    flat_map (λ kind. flat_map (λ held. map (λ end. WriteEnd kind held end)
    (end_states_of_write kind held)) (held_at_end kind)) writes

-- a DVM snoop is of no line
abbrev pub snooped_in : SnoopKind → List LineState
snooped_in kind = if is_line_snoop kind then states else I ∷ []

-- each answer that a snoop may have
abbrev pub answer_points : List Point
answer_points =
    flat_map (λ kind. flat_map (λ held. map (λ (row : Row). Answer kind held row.resp row.next)
    (snoop_rows kind held false)) (snooped_in kind)) snoops

-- each that it may have of a port with a memory update of the line outstanding, which holds the
-- line
abbrev pub update_points : List Point
update_points =
    flat_map (λ kind. flat_map (λ held. map
    (λ (row : Row). AnswerWithUpdate kind held row.resp row.next) (snoop_rows kind held true))
    (filter (λ held. not (is_invalid held)) states)) (filter goes_with_update snoops)

abbrev pub silent_from : LineState → List Point
silent_from from = map (λ to. Silent from to) (filter (is_silent_move from) states)

-- each silent transition
abbrev pub silent_points : List Point
silent_points = flat_map silent_from states

-- each rule that an accepted trace can ask in earnest: the first three are of single records
abbrev pub rule_points : List Point
rule_points =
    map (λ rule. Rule rule)
    (4 ∷ 5 ∷ 6 ∷ 7 ∷ 8 ∷ 9 ∷ 10 ∷ 11 ∷ 12 ∷ 13 ∷ 14 ∷ 15 ∷ 16 ∷ 17 ∷ 18 ∷ 19 ∷ 20 ∷ 21 ∷ 22
    ∷ 23 ∷ 24 ∷ 25 ∷ 26 ∷ 27 ∷ 28 ∷ 29 ∷ 30 ∷ 31 ∷ 32 ∷ 33 ∷ 34 ∷ 35 ∷ 36 ∷ 37 ∷ 38 ∷ 39 ∷ 40
    ∷ [])

-- each situation
abbrev pub situation_points : List Point
situation_points =
    Met situation.WaitsForGrant
    ∷ Met situation.ThreeWantLine
    ∷ Met situation.SnoopMeetsWriteBack
    ∷ Met situation.SnoopMeetsWriteClean
    ∷ Met situation.SnoopMeetsWriteEvict
    ∷ Met situation.CleanUniqueLosesLine
    ∷ Met situation.MakeUniqueLosesLine
    ∷ Met situation.StorePassesRival
    ∷ Met situation.DirtyLinePassed
    ∷ Met situation.PassedLineWritten
    ∷ Met situation.WriteUniqueMerged
    ∷ Met situation.ReadMeetsStore
    ∷ Met situation.TwoPortsSend
    ∷ Met situation.DirtyOwnerAndSharer
    ∷ Met situation.ThreeHolders
    ∷ Met situation.WriteEvictBesideGrant
    ∷ Met situation.AnswersOutOfOrder
    ∷ Met situation.SnoopWaits
    ∷ Met situation.TwoWritesSend
    ∷ Met situation.BarrierWaits
    ∷ Met situation.BarrierIgnored
    ∷ Met situation.MessageWaits
    ∷ Met situation.SyncOfThree
    ∷ Met situation.DirtyLineDropped
    ∷ Met situation.BytesLeftOut
    ∷ Met situation.LoadAfterSnoop
    ∷ Met situation.OperationFails
    ∷ Met situation.OperationSkipped
    ∷ Met situation.MemoryOpens
    ∷ Met situation.SixteenOutstanding
    ∷ []

-- all of them
abbrev pub all_points : List Point
all_points =
    transaction_points ++ start_points ++ read_end_points ++ write_end_points
    ++ answer_points ++ update_points ++ silent_points ++ rule_points
    ++ situation_points
