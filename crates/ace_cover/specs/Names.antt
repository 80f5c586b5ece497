-- What points are called.
use Rattle.std.specs.Prelude.{ℕ, Bool, true, false, ◌==◌, ◌++◌, if◌then◌else◌, List, [], codes, decimal}
use Rattle.ace_codes.specs.declared.kind.ArKind.{ArKind}
use Rattle.ace_codes.specs.declared.state.LineState.{LineState}
use Rattle.ace_event.specs.Text.{hex_text, state_text}
use Rattle.ace_points.specs.declared.point.Point.{Point}
use Rattle.ace_points.specs.declared.point.Point.TheVariants.{Read, Write, Exclusive, ExclusiveStore, Barrier, SecondPart, Sync, Bar, Domain, ReadStart, WriteStart, ReadEnd, WriteEnd, Answer, AnswerWithUpdate, Silent, Rule, Met}
use Rattle.ace_points.specs.declared.situation.Situation.{Situation}
use Rattle.ace_points.specs.declared.situation.Situation.TheVariants as situation
use Rattle.ace_words.specs.Kinds.{read_word, write_word, snoop_word}

abbrev pub port_word : Bool → List ℕ
port_word true = codes "ACE "
port_word false = codes "ACE-Lite "

abbrev pub passed_word : Bool → List ℕ
passed_word true = codes "passed"
passed_word false = codes "failed"

-- of a barrier
abbrev pub bar_word : ℕ → List ℕ
bar_word bar = if bar == 1 then codes "memory" else codes "synchronisation"

abbrev pub failed_word : Bool → List ℕ
failed_word true = codes " failed"
failed_word false = codes ""

abbrev pub shared_word : Bool → List ℕ
shared_word true = codes ", IsShared 1"
shared_word false = codes ", IsShared 0"

abbrev pub dirty_word : Bool → List ℕ
dirty_word true = codes ", PassDirty 1"
dirty_word false = codes ", PassDirty 0"

-- a change of state
abbrev pub move_text : LineState → LineState → List ℕ
move_text from to = state_text from ++ (codes " -> " ++ state_text to)

-- the state from which something comes
abbrev pub from_text : List ℕ → LineState → List ℕ
from_text what held = what ++ (codes " from " ++ state_text held)

-- an answer: CRRESP and the next state
abbrev pub answer_text : ℕ → LineState → List ℕ
answer_text resp next = codes ": " ++ (hex_text 2 resp ++ (codes " " ++ state_text next))

-- a kind of transaction, or what is special of one
abbrev pub transaction_name : Point → List ℕ
transaction_name (Read ace kind) = port_word ace ++ read_word kind
transaction_name (Write ace kind) = port_word ace ++ write_word kind
transaction_name (Exclusive kind) = codes "ACE exclusive " ++ read_word kind
transaction_name (ExclusiveStore passes) = codes "ACE exclusive CleanUnique " ++ passed_word passes
transaction_name (Barrier ace bar) = port_word ace ++ (codes "Barrier " ++ bar_word bar)
transaction_name SecondPart = codes "ACE DVM Message of two parts"
transaction_name Sync = codes "ACE DVM Sync"
transaction_name (Bar bar) = codes "AxBAR " ++ decimal bar
transaction_name (Domain domain) = codes "AxDOMAIN " ++ decimal domain
transaction_name _ = []

-- the end of a read
abbrev pub read_end_name : ArKind → Bool → LineState → Bool → Bool → LineState → List ℕ
read_end_name kind failed held shared dirty end =
    (read_word kind ++ failed_word failed)
    ++ ((codes " from " ++ state_text held) ++ ((shared_word shared ++ dirty_word dirty)
    ++ (codes " -> " ++ state_text end)))

abbrev pub situation_name : Situation → List ℕ
situation_name situation.WaitsForGrant =
    codes "a transaction waits for the grant of a line that another holds"
situation_name situation.ThreeWantLine = codes "three transactions want one line"
situation_name situation.SnoopMeetsWriteBack = codes "a snoop meets an outstanding WriteBack"
situation_name situation.SnoopMeetsWriteClean = codes "a snoop meets an outstanding WriteClean"
situation_name situation.SnoopMeetsWriteEvict = codes "a snoop meets an outstanding WriteEvict"
situation_name situation.CleanUniqueLosesLine = codes "a CleanUnique loses its line"
situation_name situation.MakeUniqueLosesLine = codes "a MakeUnique loses its line"
situation_name situation.StorePassesRival =
    codes "an exclusive store passes and another is pending"
situation_name situation.DirtyLinePassed = codes "a dirty line is passed to a reader"
situation_name situation.PassedLineWritten =
    codes "a passed dirty line is written to memory for the reader"
situation_name situation.WriteUniqueMerged =
    codes "a WriteUnique is merged into a passed dirty line"
situation_name situation.ReadMeetsStore = codes "a read goes on while its line is stored to"
situation_name situation.TwoPortsSend = codes "two ports send data under one grant"
situation_name situation.DirtyOwnerAndSharer = codes "a dirty owner and a sharer at once"
situation_name situation.ThreeHolders = codes "three holders of one line"
situation_name situation.WriteEvictBesideGrant =
    codes "a WriteEvict writes memory while its line is granted"
situation_name situation.AnswersOutOfOrder =
    codes "snoop answers come in another order than the snoops"
situation_name situation.SnoopWaits = codes "a snoop waits behind another"
situation_name situation.TwoWritesSend = codes "write data of two writes are under way at a port"
situation_name situation.BarrierWaits = codes "a barrier waits for an earlier transaction"
situation_name situation.BarrierIgnored = codes "a transaction ignores a barrier (AxBAR 2)"
situation_name situation.MessageWaits = codes "a DVM message waits behind another"
situation_name situation.SyncOfThree =
    codes "a Sync is completed of which two other ports were told"
situation_name situation.DirtyLineDropped = codes "a MakeInvalid drops a dirty line"
situation_name situation.BytesLeftOut = codes "a WriteUnique leaves bytes out"
situation_name situation.LoadAfterSnoop = codes "a load after a snoop that kept the line"
situation_name situation.OperationFails = codes "an operation fails"
situation_name situation.OperationSkipped = codes "an operation is skipped"
situation_name situation.MemoryOpens = codes "memory opens with other than zeros"
situation_name situation.SixteenOutstanding =
    codes "sixteen transactions of a port are outstanding"

-- what the point is called in its group
abbrev pub name_of : Point → List ℕ
name_of (ReadStart kind held) = from_text (read_word kind) held
name_of (WriteStart kind held) = from_text (write_word kind) held
name_of (ReadEnd kind failed held shared dirty end) =
    read_end_name kind failed held shared dirty end
name_of (WriteEnd kind held end) =
    from_text (write_word kind) held ++ (codes " -> " ++ state_text end)
name_of (Answer kind held resp next) = from_text (snoop_word kind) held ++ answer_text resp next
name_of (AnswerWithUpdate kind held resp next) =
    from_text (snoop_word kind) held ++ answer_text resp next
name_of (Silent from to) = move_text from to
name_of (Rule rule) = codes "K" ++ decimal rule
name_of (Met situation) = situation_name situation
name_of p = transaction_name p
