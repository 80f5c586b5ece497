-- What holds at each point of an accepted trace, beside the laws that a unique line has one holder and that one port holds it
-- dirty, and makes them inductive.
use Rattle.std.proofs.Common.{ℕ, ◌≡◌, ◌≢◌, ◌≤◌, true, false, Some, slice_get}
use Rattle.ace_model.proofs.Terms.{ArKind, SnoopKind, I, passes_dirty, is_shared, Header, Read, Transaction, Snoop, Answer, Trace, is_some_and, takes_passed_data, is_unique, is_ace, read_kind}
use Rattle.ace_model.proofs.Terms.{is_on, is_line, snoop_of, outstanding, completed, acknowledgements, transfers, first_resp, snoops_of, is_snoop_on, granted, answer_of, grant_place, has_failed}
use Rattle.ace_model.proofs.Terms.{has_snoop_code, state_of, UniqueNow, OneDirtyNow}
use Rattle.ace_model.proofs.Tables.States.{is_settled, Leaves}
use Rattle.ace_model.proofs.Tables.ReadEnds.{takes_alone, takes_shared}
use Rattle.ace_model.proofs.Trace.Transfers.{IsFull}

-- every other port's state of the line is I
abbrev pub OthersInvalid : Header → Trace → ℕ → ℕ → Type 0
OthersInvalid h past p l = (q : ℕ) → p ≢ q → state_of h past q l ≡ I

-- no other port holds the line in UC or UD
abbrev pub OthersNotUnique : Header → Trace → ℕ → ℕ → Type 0
OthersNotUnique h past p l = (q : ℕ) → p ≢ q → is_unique (state_of h past q l) ≡ false

-- every port's state of the line is I or SC
abbrev pub AllSettled : Header → Trace → ℕ → Type 0
AllSettled h past l = (q : ℕ) → is_settled (state_of h past q l) ≡ true

-- A granted transaction is outstanding, and on its line.
abbrev pub GrantsStand : Header → Trace → Type 0
GrantsStand h past =
    (l : ℕ) (x : Transaction) → granted h past l ≡ Some x → (outstanding h past x.port x.chan x.id ≡ Some x) × (is_on x l ≡ true)

-- A snoop of the line under its grant is the one that the granted transaction causes.
abbrev pub SnoopsFit : Header → Trace → Type 0
SnoopsFit h past =
    (r n l : ℕ) (s : Snoop) (x : Transaction) → slice_get (snoops_of past r) n ≡ Some s → is_snoop_on s l ≡ true
    → grant_place past l ≤ s.place → granted h past l ≡ Some x → has_snoop_code x s.snoop ≡ true

-- A port that has answered its snoop under the grant has the state in which the snoop leaves it, or less.
abbrev pub AnswersFit : Header → Trace → Type 0
AnswersFit h past =
    (l r : ℕ) (x : Transaction) (a : Answer) (k : SnoopKind) → granted h past l ≡ Some x → answer_of past r l ≡ Some a
    → snoop_of x ≡ Some k → Leaves k (is_shared a.resp) (state_of h past r l)

-- Where a port has answered with PassDirty under the grant of a read that takes passed data, no port holds the line dirty, nor
-- in a state in which it may store.
abbrev pub PassedOn : Header → Trace → Type 0
PassedOn h past =
    (l r : ℕ) (x : Transaction) (a : Answer) → granted h past l ≡ Some x → is_some_and (read_kind x) takes_passed_data ≡ true
    → answer_of past r l ≡ Some a → passes_dirty a.resp ≡ true → AllSettled h past l

-- What holds of an outstanding read of a line from its first transfer on: it is granted, and the other ports hold what its kind
-- and the response let them hold.
abbrev pub Arrives : Header → Trace → ℕ → ℕ → Transaction → Type 0
Arrives h past p i x = record {
  stands : granted h past x.addr ≡ Some x;
  alone :
      (k : ArKind) → read_kind x ≡ Some k → takes_alone k (is_some_and (first_resp past p i) is_shared) (has_failed past x) ≡ true
      → OthersInvalid h past p x.addr;
  beside : (k : ArKind) → read_kind x ≡ Some k → takes_shared k ≡ true → OthersNotUnique h past p x.addr;
  dirty : is_some_and (first_resp past p i) passes_dirty ≡ true → AllSettled h past x.addr;
}

abbrev pub TransfersArrive : Header → Trace → Type 0
TransfersArrive h past =
    (p i : ℕ) (x : Transaction) → is_ace h p ≡ true → outstanding h past p Read i ≡ Some x → is_line x ≡ true
    → transfers past p i ≢ 0 → Arrives h past p i x

-- A complete read of an ACE port that waits for its RK is outstanding, and has had all its transfers.
abbrev pub QueueStands : Header → Trace → Type 0
QueueStands h past =
    (p n i : ℕ) → is_ace h p ≡ true → acknowledgements past p Read ≤ n → slice_get (completed past p Read) n ≡ Some i
    → (x : Transaction) × (outstanding h past p Read i ≡ Some x) × IsFull past p i x

-- No identifier waits twice at an ACE port.
abbrev pub QueueDistinct : Header → Trace → Type 0
QueueDistinct h past =
    (p m n i : ℕ) → is_ace h p ≡ true → acknowledgements past p Read ≤ m → acknowledgements past p Read ≤ n
    → slice_get (completed past p Read) m ≡ Some i → slice_get (completed past p Read) n ≡ Some i → m ≡ n

-- A port that is no ACE port of the header holds nothing.
abbrev pub OutsideInvalid : Header → Trace → Type 0
OutsideInvalid h past = (q l : ℕ) → is_ace h q ≡ false → state_of h past q l ≡ I

abbrev pub OneHolder : Header → Trace → Type 0
OneHolder h past = record {
  grants : GrantsStand h past;
  snoops : SnoopsFit h past;
  answers : AnswersFit h past;
  passed : PassedOn h past;
  arrive : TransfersArrive h past;
  queue : QueueStands h past;
  distinct : QueueDistinct h past;
  outside : OutsideInvalid h past;
  unique : UniqueNow h past;
  one_dirty : OneDirtyNow h past;
}
