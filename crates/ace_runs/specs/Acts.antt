-- Acts: the events by which a port does what an operation asks. What else it issues only leads
-- there: reads of lines to keep, CleanUnique and MakeUnique, and memory updates.
use Rattle.std.specs.Prelude.{ℕ, ◌*◌, ◌^◌, Bool, true, false, ◌&&◌, ◌||◌, ◌==◌, if◌then◌else◌, List, [], ◌∷◌, map, Option, Some, None}
use Rattle.ace_codes.specs.declared.kind.ArKind.{ArKind}
use Rattle.ace_codes.specs.declared.kind.ArKind.TheVariants as read
use Rattle.ace_codes.specs.declared.kind.AwKind.{AwKind}
use Rattle.ace_codes.specs.declared.kind.AwKind.TheVariants as write
use Rattle.ace_codes.specs.Places.{is_at}
use Rattle.ace_codes.specs.Reads.{read_place}
use Rattle.ace_codes.specs.Writes.{write_place}
use Rattle.ace_event.specs.declared.event.Event.{Event}
use Rattle.ace_event.specs.declared.event.Event.TheVariants.{Ar, Aw, L, D}
use Rattle.ace_event.specs.declared.line.Line.{Line}
use Rattle.ace_tables.specs.Answers.{same_test}
use Rattle.ace_model.specs.declared.plans.Op.{Op}
use Rattle.ace_model.specs.declared.plans.Op.TheVariants.{Ld, Ldx, St, Stx, Fill, Ro, Cs, Ci, Mi, Rn, Wu, Wlu, Wn, Mb, Sb, Dvm, Sync, Dvm2}
use Rattle.ace_model.specs.declared.transactions.Transaction.{Transaction}
use Rattle.ace_model.specs.Trace.{is_some_and}
use Rattle.ace_model.specs.Kinds.{is_granted_write, is_write_barrier}
use Rattle.ace_model.specs.Transactions.{issued, read_kind, write_kind}
use Rattle.ace_model.specs.Copies.{same_line}
use Rattle.ace_model.specs.Values.{full_line}

-- a read of this kind is an act
abbrev pub is_act_read : ArKind → Bool
is_act_read read.ReadOnce = true
is_act_read read.ReadNoSnoop = true
is_act_read read.CleanShared = true
is_act_read read.CleanInvalid = true
is_act_read read.MakeInvalid = true
is_act_read read.DvmMessage = true
is_act_read read.Barrier = true
is_act_read _ = false

-- a write of this kind is an act
abbrev pub is_act_write : AwKind → Bool
is_act_write k = is_granted_write k || is_write_barrier k

abbrev pub is_act_transaction : Transaction → Bool
is_act_transaction x =
    is_some_and (read_kind x) is_act_read || is_some_and (write_kind x) is_act_write

abbrev pub is_load_or_store : Event → Bool
is_load_or_store (L p addr w x word) = true
is_load_or_store (D p addr strobe x line) = true
is_load_or_store _ = false

-- the event is an act of its port
abbrev pub is_act : Event → Bool
is_act e = is_load_or_store e || is_some_and (issued 0 e) is_act_transaction

-- the sixteen strobes of word w of a line, and the line with this word and zeros elsewhere
abbrev pub word_strobe : ℕ → ℕ
word_strobe w = 65535 * 65536 ^ w

abbrev pub word_line : ℕ → ℕ → Line
word_line w word = record { words = map (λ k. if k == w then word else 0) (0 ∷ 1 ∷ 2 ∷ 3 ∷ []) }

-- the event is such a load, such a store
abbrev pub is_load : ℕ → ℕ → Bool → Event → Bool
is_load a w x (L p addr v y word) = (addr == a) && (v == w) && same_test x y
is_load a w x _ = false

abbrev pub is_store : ℕ → ℕ → Line → Bool → Event → Bool
is_store a strobe line x (D p addr s y l) =
    (addr == a) && (s == strobe) && same_test x y && same_line line l
is_store a strobe line x _ = false

-- the event issues a transaction of the kind with this address, which is the word of a DVM message
abbrev pub issues_read : ArKind → ℕ → Event → Bool
issues_read k a (Ar p i addr snoop dom bar lock) = is_at (read_place k) snoop dom bar && (addr == a)
issues_read k a _ = false

abbrev pub issues_write : AwKind → ℕ → Event → Bool
issues_write k a (Aw p i addr snoop dom bar) = is_at (write_place k) snoop dom bar && (addr == a)
issues_write k a _ = false

-- the event issues a half of a barrier with this AxBAR
abbrev pub begins_on_reads : ℕ → Event → Bool
begins_on_reads b (Ar p i addr snoop dom bar lock) =
    is_at (read_place read.Barrier) snoop dom bar && (bar == b)
begins_on_reads b _ = false

abbrev pub begins_on_writes : ℕ → Event → Bool
begins_on_writes b (Aw p i addr snoop dom bar) =
    is_at (write_place write.Barrier) snoop dom bar && (bar == b)
begins_on_writes b _ = false

-- AxBAR of a memory barrier and of a synchronisation barrier
abbrev pub memory_bar : ℕ
memory_bar = 1

abbrev pub synchronisation_bar : ℕ
synchronisation_bar = 3

-- The acts of an operation, in order. An operation that only brings a line in or gives it up has
-- none.
abbrev pub acts_of : Op → List (Event → Bool)
acts_of (Ld a w) = is_load a w false ∷ []
acts_of (Ldx a w) = is_load a w true ∷ []
acts_of (St a w word) = is_store a (word_strobe w) (word_line w word) false ∷ []
acts_of (Stx a w word) = is_store a (word_strobe w) (word_line w word) true ∷ []
acts_of (Fill a line) = is_store a full_line line false ∷ []
acts_of (Ro a) = issues_read read.ReadOnce a ∷ []
acts_of (Cs a) = issues_read read.CleanShared a ∷ []
acts_of (Ci a) = issues_read read.CleanInvalid a ∷ []
acts_of (Mi a) = issues_read read.MakeInvalid a ∷ []
acts_of (Rn a) = issues_read read.ReadNoSnoop a ∷ []
acts_of (Wu a strobe line) = issues_write write.WriteUnique a ∷ []
acts_of (Wlu a line) = issues_write write.WriteLineUnique a ∷ []
acts_of (Wn a strobe line) = issues_write write.WriteNoSnoop a ∷ []
acts_of Mb = begins_on_reads memory_bar ∷ begins_on_writes memory_bar ∷ []
acts_of Sb = begins_on_reads synchronisation_bar ∷ begins_on_writes synchronisation_bar ∷ []
acts_of (Dvm word) = issues_read read.DvmMessage word ∷ []
acts_of (Sync word) = issues_read read.DvmMessage word ∷ []
acts_of (Dvm2 word second) =
    issues_read read.DvmMessage word ∷ issues_read read.DvmMessage second ∷ []
acts_of _ = []

-- the strobe and the line that the write of the operation carries
abbrev pub data_of_operation : Op → Option (ℕ × Line)
data_of_operation (Wu a strobe line) = Some (strobe, line)
data_of_operation (Wlu a line) = Some (full_line, line)
data_of_operation (Wn a strobe line) = Some (strobe, line)
data_of_operation _ = None
