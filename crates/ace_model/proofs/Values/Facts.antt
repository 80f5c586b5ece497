-- What holds at each point of an accepted trace, beside the law that data newer than memory have a place, and makes it inductive.
use Rattle.std.proofs.Common.{◌≡◌, ◌≢◌, ◌⊎◌, ℕ, true, false, Some, slice_get}
use Rattle.ace_model.proofs.Terms.{ArKind, I, passes_dirty, transfers_data, Header, Read, Write, is_fetch, is_dirty, Answer, Transaction, Trace, at_point, is_some_and, is_on, read_kind}
use Rattle.ace_model.proofs.Terms.{write_kind, outstanding, transfers, updates_memory, has_memory_write, granted, is_begun, answer_of, has_passed_data, state_of, has_store, words_read, word_of, copy_of}
use Rattle.ace_model.proofs.Terms.{memory_of, reply_of, Beat, burst_of, stores_data, discards_data, value_of, AreCopiesTrue, IsValueSafe}
use Rattle.ace_codes.specs.declared.kind.ArKind.TheVariants as read
use Rattle.ace_model.proofs.Tables.Kinds.{is_dirty_update}

-- Passed data are the value, or their port has stored since and holds the line dirty.
abbrev pub PassedTrue : Header → Trace → Type 0
PassedTrue h past =
    (l r : ℕ) (x : Transaction) (w : Answer) → granted h past l ≡ Some x → has_memory_write past x.port x.chan x.id ≡ false → answer_of past r l ≡ Some w
    → passes_dirty w.resp ≡ true → (copy_of (at_point w.place past) r l ≡ value_of past l) ⊎ (is_dirty (state_of h past r l) ≡ true)

-- What a port has sent under the grant of a read that keeps the line is the value.
abbrev pub SentTrue : Header → Trace → Type 0
SentTrue h past =
    (l r : ℕ) (x : Transaction) (w : Answer) (k : ArKind) → granted h past l ≡ Some x → answer_of past r l ≡ Some w → transfers_data w.resp ≡ true
    → read_kind x ≡ Some k → is_fetch k ≡ true → copy_of (at_point w.place past) r l ≡ value_of past l

-- The reply of such a read is the value from the first transfer on, and so are the words that it has had; the copy is, once it
-- has had all four.
pub record Fetches (h : Header) (past : Trace) (p i l : ℕ) (x : Transaction) : Type 0 where
  pub replies : reply_of past x ≡ value_of past l
  pub words : (n w : ℕ) → slice_get (words_read past p i) n ≡ Some w → w ≡ word_of (value_of past l) n
  pub whole : transfers past p i ≡ 4 → copy_of past p l ≡ value_of past l

abbrev pub FetchesTrue : Header → Trace → Type 0
FetchesTrue h past =
    (p i l : ℕ) (x : Transaction) (k : ArKind) → outstanding h past p Read i ≡ Some x → is_on x l ≡ true → read_kind x ≡ Some k → is_fetch k ≡ true
    → transfers past p i ≢ 0 → Fetches h past p i l x

-- A MakeUnique that has had its store leaves its port with the value.
abbrev pub MadeTrue : Header → Trace → Type 0
MadeTrue h past =
    (p i l : ℕ) (x : Transaction) → outstanding h past p Read i ≡ Some x → is_on x l ≡ true → read_kind x ≡ Some read.MakeUnique
    → has_store h past p i ≡ true → copy_of past p l ≡ value_of past l

-- The transaction stores to its line where no port holds it: a write that stores, or a MakeInvalid.
abbrev pub StoresUnheld : Transaction → Type 0
StoresUnheld x = (stores_data x ≡ true) ⊎ (discards_data x ≡ true)

-- Once such a granted transaction has had its M or its transfer, memory is the value and no port holds the line.
pub record Quiet (h : Header) (past : Trace) (l : ℕ) : Type 0 where
  pub stored : memory_of past l ≡ value_of past l
  pub nowhere : (p : ℕ) → state_of h past p l ≡ I

abbrev pub BegunTrue : Header → Trace → Type 0
BegunTrue h past = (l : ℕ) (x : Transaction) → granted h past l ≡ Some x → StoresUnheld x → is_begun past x ≡ true → Quiet h past l

-- The words of an outstanding memory update are those of the value.
abbrev pub UpdatesTrue : Header → Trace → Type 0
UpdatesTrue h past =
    (p i l : ℕ) (x : Transaction) (k : ℕ) (b : Beat) → outstanding h past p Write i ≡ Some x → is_on x l ≡ true → updates_memory x ≡ true
    → slice_get (burst_of past x) k ≡ Some b → b.word ≡ word_of (value_of past l) k

-- Once the update of a dirty line has written memory, memory is the value, and no passed data are on their way.
pub record Updated (h : Header) (past : Trace) (l : ℕ) : Type 0 where
  pub stored : memory_of past l ≡ value_of past l
  pub none : (y : Transaction) → granted h past l ≡ Some y → has_passed_data h past y ≡ false

abbrev pub UpdatedTrue : Header → Trace → Type 0
UpdatedTrue h past =
    (p i l : ℕ) (x : Transaction) → outstanding h past p Write i ≡ Some x → is_on x l ≡ true → is_some_and (write_kind x) is_dirty_update ≡ true
    → has_memory_write past p Write i ≡ true → Updated h past l

pub record DirtyPlaced (h : Header) (past : Trace) : Type 0 where
  pub copies : (l : ℕ) → AreCopiesTrue h past l
  pub safe : (l : ℕ) → IsValueSafe h past l
  pub passed : PassedTrue h past
  pub sent : SentTrue h past
  pub fetches : FetchesTrue h past
  pub made : MadeTrue h past
  pub begun : BegunTrue h past
  pub updates : UpdatesTrue h past
  pub updated : UpdatedTrue h past
