-- When two points are the same.
use Rattle.std.specs.Prelude.{Bool, true, false, ◌&&◌, ◌==◌}
use Rattle.ace_codes.specs.declared.kind.ArKind.{ArKind}
use Rattle.ace_codes.specs.declared.kind.ArKind.TheVariants as read
use Rattle.ace_codes.specs.declared.kind.AwKind.{AwKind}
use Rattle.ace_codes.specs.declared.kind.AwKind.TheVariants as write
use Rattle.ace_codes.specs.declared.kind.SnoopKind.{SnoopKind}
use Rattle.ace_codes.specs.declared.kind.SnoopKind.TheVariants as snoop
use Rattle.ace_tables.specs.Answers.{same_test}
use Rattle.ace_tables.specs.States.{same_state}
use Rattle.ace_points.specs.declared.point.Point.{Point}
use Rattle.ace_points.specs.declared.situation.Situation.{Situation}
use Rattle.ace_points.specs.declared.situation.Situation.TheVariants as situation
use Rattle.ace_points.specs.declared.point.Point.TheVariants.{Read, Write, Exclusive, ExclusiveStore, Barrier, SecondPart, Sync, Bar, Domain, ReadStart, WriteStart, ReadEnd, WriteEnd, Answer, AnswerWithUpdate, Silent, Rule, Met}

abbrev pub same_read : ArKind → ArKind → Bool
same_read read.ReadNoSnoop read.ReadNoSnoop = true
same_read read.ReadOnce read.ReadOnce = true
same_read read.ReadShared read.ReadShared = true
same_read read.ReadClean read.ReadClean = true
same_read read.ReadNotSharedDirty read.ReadNotSharedDirty = true
same_read read.ReadUnique read.ReadUnique = true
same_read read.CleanUnique read.CleanUnique = true
same_read read.MakeUnique read.MakeUnique = true
same_read read.CleanShared read.CleanShared = true
same_read read.CleanInvalid read.CleanInvalid = true
same_read read.MakeInvalid read.MakeInvalid = true
same_read read.DvmComplete read.DvmComplete = true
same_read read.DvmMessage read.DvmMessage = true
same_read read.Barrier read.Barrier = true
same_read _ _ = false

abbrev pub same_write : AwKind → AwKind → Bool
same_write write.WriteNoSnoop write.WriteNoSnoop = true
same_write write.WriteUnique write.WriteUnique = true
same_write write.WriteLineUnique write.WriteLineUnique = true
same_write write.WriteClean write.WriteClean = true
same_write write.WriteBack write.WriteBack = true
same_write write.Evict write.Evict = true
same_write write.WriteEvict write.WriteEvict = true
same_write write.Barrier write.Barrier = true
same_write _ _ = false

abbrev pub same_snoop : SnoopKind → SnoopKind → Bool
same_snoop snoop.ReadOnce snoop.ReadOnce = true
same_snoop snoop.ReadShared snoop.ReadShared = true
same_snoop snoop.ReadClean snoop.ReadClean = true
same_snoop snoop.ReadNotSharedDirty snoop.ReadNotSharedDirty = true
same_snoop snoop.ReadUnique snoop.ReadUnique = true
same_snoop snoop.CleanShared snoop.CleanShared = true
same_snoop snoop.CleanInvalid snoop.CleanInvalid = true
same_snoop snoop.MakeInvalid snoop.MakeInvalid = true
same_snoop snoop.DvmComplete snoop.DvmComplete = true
same_snoop snoop.DvmMessage snoop.DvmMessage = true
same_snoop _ _ = false

abbrev pub same_situation : Situation → Situation → Bool
same_situation situation.WaitsForGrant situation.WaitsForGrant = true
same_situation situation.ThreeWantLine situation.ThreeWantLine = true
same_situation situation.SnoopMeetsWriteBack situation.SnoopMeetsWriteBack = true
same_situation situation.SnoopMeetsWriteClean situation.SnoopMeetsWriteClean = true
same_situation situation.SnoopMeetsWriteEvict situation.SnoopMeetsWriteEvict = true
same_situation situation.CleanUniqueLosesLine situation.CleanUniqueLosesLine = true
same_situation situation.MakeUniqueLosesLine situation.MakeUniqueLosesLine = true
same_situation situation.StorePassesRival situation.StorePassesRival = true
same_situation situation.DirtyLinePassed situation.DirtyLinePassed = true
same_situation situation.PassedLineWritten situation.PassedLineWritten = true
same_situation situation.WriteUniqueMerged situation.WriteUniqueMerged = true
same_situation situation.ReadMeetsStore situation.ReadMeetsStore = true
same_situation situation.TwoPortsSend situation.TwoPortsSend = true
same_situation situation.DirtyOwnerAndSharer situation.DirtyOwnerAndSharer = true
same_situation situation.ThreeHolders situation.ThreeHolders = true
same_situation situation.WriteEvictBesideGrant situation.WriteEvictBesideGrant = true
same_situation situation.AnswersOutOfOrder situation.AnswersOutOfOrder = true
same_situation situation.SnoopWaits situation.SnoopWaits = true
same_situation situation.TwoWritesSend situation.TwoWritesSend = true
same_situation situation.BarrierWaits situation.BarrierWaits = true
same_situation situation.BarrierIgnored situation.BarrierIgnored = true
same_situation situation.MessageWaits situation.MessageWaits = true
same_situation situation.SyncOfThree situation.SyncOfThree = true
same_situation situation.DirtyLineDropped situation.DirtyLineDropped = true
same_situation situation.BytesLeftOut situation.BytesLeftOut = true
same_situation situation.LoadAfterSnoop situation.LoadAfterSnoop = true
same_situation situation.OperationFails situation.OperationFails = true
same_situation situation.OperationSkipped situation.OperationSkipped = true
same_situation situation.MemoryOpens situation.MemoryOpens = true
same_situation situation.SixteenOutstanding situation.SixteenOutstanding = true
same_situation _ _ = false

-- the kinds and the states are the same, and so are the other fields
abbrev pub same_point : Point → Point → Bool
same_point (Read ace kind) (Read a k) = same_test ace a && same_read kind k
same_point (Write ace kind) (Write a k) = same_test ace a && same_write kind k
same_point (Exclusive kind) (Exclusive k) = same_read kind k
same_point (ExclusiveStore passes) (ExclusiveStore p) = same_test passes p
same_point (Barrier ace bar) (Barrier a b) = same_test ace a && (bar == b)
same_point SecondPart SecondPart = true
same_point Sync Sync = true
same_point (Bar bar) (Bar b) = bar == b
same_point (Domain domain) (Domain d) = domain == d
same_point (ReadStart kind held) (ReadStart k h) = same_read kind k && same_state held h
same_point (WriteStart kind held) (WriteStart k h) = same_write kind k && same_state held h
same_point (ReadEnd kind failed held shared dirty end) (ReadEnd k f h s d e) =
    same_read kind k && same_test failed f && same_state held h && same_test shared s
    && same_test dirty d && same_state end e
same_point (WriteEnd kind held end) (WriteEnd k h e) =
    same_write kind k && same_state held h && same_state end e
same_point (Answer kind held resp next) (Answer k h r n) =
    same_snoop kind k && same_state held h && (resp == r) && same_state next n
same_point (AnswerWithUpdate kind held resp next) (AnswerWithUpdate k h r n) =
    same_snoop kind k && same_state held h && (resp == r) && same_state next n
same_point (Silent from to) (Silent f t) = same_state from f && same_state to t
same_point (Rule rule) (Rule r) = rule == r
same_point (Met situation) (Met s) = same_situation situation s
same_point _ _ = false
