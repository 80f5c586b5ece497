-- What a port keeps between its steps: how far its next operation has come.
use Rattle.std.specs.Prelude.{ℕ, ◌≡◌, ◌≤◌, ◌<◌, ◌⊎◌, ◌==◌, Bool, true, false, not, ◌&&◌, ◌||◌, length, filter, slice_get, Option, Some, None, is_some}
use Rattle.ace_codes.specs.declared.kind.ArKind.{ArKind}
use Rattle.ace_codes.specs.declared.kind.ArKind.TheVariants as read
use Rattle.ace_codes.specs.declared.kind.AwKind.{AwKind}
use Rattle.ace_codes.specs.declared.kind.AwKind.TheVariants as write
use Rattle.ace_event.specs.declared.event.Channel.TheVariants.{Read}
use Rattle.ace_event.specs.declared.event.Outcome.TheVariants.{Ok}
use Rattle.ace_event.specs.declared.header.Header.{Header}
use Rattle.ace_tables.specs.EndStates.{is_fetch}
use Rattle.ace_tables.specs.States.{is_dirty, is_invalid}
use Rattle.ace_model.specs.declared.plans.Op.{Op}
use Rattle.ace_model.specs.declared.plans.Op.TheVariants.{Ld, Ldx, St, Stx, Fill, Pf, Ro, Cs, Ci, Mi, Wu, Wlu}
use Rattle.ace_model.specs.declared.transactions.Transaction.{Transaction}
use Rattle.ace_model.specs.Kinds.{is_clean_unique, is_make_unique}
use Rattle.ace_model.specs.Plans.{Plan}
use Rattle.ace_model.specs.Progress.{updates_memory}
use Rattle.ace_model.specs.States.{state_of}
use Rattle.ace_model.specs.Trace.{Trace, is_some_and}
use Rattle.ace_model.specs.Transactions.{is_outstanding, outstanding, read_kind, write_kind}
use Rattle.ace_runs.specs.Acts.{is_act_transaction}
use Rattle.ace_runs.specs.HeldLines.{held_lines, others}
use Rattle.ace_runs.specs.Operations.{next_operation}
use Rattle.ace_runs.specs.Requests.{has_room}
use Rattle.ace_runs.specs.Retiring.{may_retire}
use Rattle.ace_runs.specs.Segments.{is_read_of, segment, silent_moves}

-- ---- what an operation asks for
-- ----------------------------------------------------------------------

-- a read of this kind brings a line into the cache of its port
abbrev pub takes_line : ArKind → Bool
takes_line k = is_fetch k || is_make_unique k

abbrev pub brings_line : Transaction → Bool
brings_line x = is_some_and (read_kind x) takes_line

abbrev pub owns_line : Transaction → Bool
owns_line x = is_some_and (read_kind x) is_clean_unique

-- the read by which the operation brings its line in: its kind, and the line
abbrev pub read_wanted : Op → Option (ArKind × ℕ)
read_wanted (Ld a w) = Some (read.ReadShared, a)
read_wanted (Ldx a w) = Some (read.ReadShared, a)
read_wanted (St a w word) = Some (read.ReadUnique, a)
read_wanted (Fill a line) = Some (read.MakeUnique, a)
read_wanted (Pf a k) = Some (k, a)
read_wanted _ = None

-- the line that the operation makes the port's own where that shares it, and whether by an
-- exclusive store
abbrev pub store_wanted : Op → Option (ℕ × Bool)
store_wanted (St a w word) = Some (a, false)
store_wanted (Stx a w word) = Some (a, true)
store_wanted _ = None

-- the operation brings a line in, for which a way is wanted
abbrev pub wants_way : Op → Bool
wants_way op = is_some (read_wanted op)

abbrev pub is_write_back : AwKind → Bool
is_write_back write.WriteBack = true
is_write_back _ = false

abbrev pub is_write_clean : AwKind → Bool
is_write_clean write.WriteClean = true
is_write_clean _ = false

-- a write of this kind of the line gives it up, or cleans it, before the operation can be done
abbrev pub clears : Op → AwKind → ℕ → Bool
clears (Ro a) k l = is_write_back k && (a == l)
clears (Ci a) k l = is_write_back k && (a == l)
clears (Mi a) k l = is_write_back k && (a == l)
clears (Wu a strobe line) k l = is_write_back k && (a == l)
clears (Wlu a line) k l = is_write_back k && (a == l)
clears (Cs a) k l = is_write_clean k && (a == l)
clears op k l = is_write_back k && wants_way op

-- The transaction is one that the operation asks for: an act, the read that brings its line in, the
-- CleanUnique of a line that it stores to, or a write that clears a line first.
pub data IsFor (op : Op) (x : Transaction) : Type 0 where
  acts : is_act_transaction x ≡ true → IsFor op x
  brings : (k : ArKind) (a : ℕ) → read_wanted op ≡ Some (k, a)
      → read_kind x ≡ Some k → is_read_of k a x ≡ true → IsFor op x
  owns : (a : ℕ) (lock : Bool) → store_wanted op ≡ Some (a, lock)
      → read_kind x ≡ Some read.CleanUnique → x.addr ≡ a → x.lock ≡ lock → IsFor op x
  gives : (k : AwKind) → write_kind x ≡ Some k → clears op k x.addr ≡ true → IsFor op x

-- ---- how far it has come
-- -----------------------------------------------------------------------------

-- no line is left to be given up or cleaned for the operation
abbrev pub is_cleared : ℕ → Header → Trace → ℕ → Op → Bool
is_cleared ways h past p (Ro a) = is_invalid (state_of h past p a)
is_cleared ways h past p (Ci a) = is_invalid (state_of h past p a)
is_cleared ways h past p (Mi a) = is_invalid (state_of h past p a)
is_cleared ways h past p (Wu a strobe line) = is_invalid (state_of h past p a)
is_cleared ways h past p (Wlu a line) = is_invalid (state_of h past p a)
is_cleared ways h past p (Cs a) = not (is_dirty (state_of h past p a))
is_cleared ways h past p op = wants_way op && has_room ways h past p

-- the port holds nothing of the line that the operation stores to
abbrev pub has_lost : Header → Trace → ℕ → Op → Bool
has_lost h past p (St a w word) = is_invalid (state_of h past p a)
has_lost h past p _ = false

-- the line that the operation loads from or stores to, which it brings in where its port doesn't
-- hold it
abbrev pub line_used : Op → Option ℕ
line_used (Ld a w) = Some a
line_used (Ldx a w) = Some a
line_used (St a w word) = Some a
line_used (Fill a line) = Some a
line_used _ = None

-- what has come of a transaction of the operation that is no longer outstanding, while the
-- operation goes on
abbrev pub is_settled : ℕ → Header → Trace → ℕ → Op → Transaction → Bool
is_settled ways h past p op x =
    is_act_transaction x || (updates_memory x && is_cleared ways h past p op)
    || (owns_line x && has_lost h past p op)

-- a line that the transaction takes or leaves a way for
abbrev pub takes_way : Op → Transaction → Bool
takes_way op x = wants_way op && (brings_line x || updates_memory x)

-- How far the port's operation has come.
pub record IsUnderWay (plan : Plan) (past : Trace) (p : ℕ) (op : Op) : Type 0 where
  -- it has issued what it asks for
  pub asked : (k : ℕ) (x : Transaction) → slice_get (segment past p) k ≡ Some x → IsFor op x
  pub settled : (k : ℕ) (x : Transaction) → slice_get (segment past p) k ≡ Some x
      → is_outstanding plan.header past x ≡ false
      → is_settled plan.ways plan.header past p op x ≡ true
  -- at most one silent transition, one update of memory and one CleanUnique
  pub silent : (silent_moves past p ≡ 0) ⊎ ((silent_moves past p ≡ 1)
      × (is_cleared plan.ways plan.header past p op ≡ true))
  pub one_update : length (filter updates_memory (segment past p)) ≤ 1
  pub one_owner : length (filter owns_line (segment past p)) ≤ 1
  -- there is a way for the line that it brings in
  pub room : (k : ℕ) (x : Transaction) → slice_get (segment past p) k ≡ Some x
      → is_outstanding plan.header past x ≡ true → takes_way op x ≡ true
      → length (others x.addr (held_lines plan.header past p)) < plan.ways
  -- and it is brought in once the update is done
  pub apart : (j k : ℕ) (x y : Transaction) → slice_get (segment past p) j ≡ Some x
      → slice_get (segment past p) k ≡ Some y → brings_line x ≡ true → updates_memory y ≡ true
      → is_outstanding plan.header past x ≡ true → is_outstanding plan.header past y ≡ false
  -- while an update makes way for the line that it loads from or stores to, its port doesn't hold
  -- that line
  pub absent : (k : ℕ) (x : Transaction) → slice_get (segment past p) k ≡ Some x
      → is_outstanding plan.header past x ≡ true → updates_memory x ≡ true
      → (l : ℕ) → line_used op ≡ Some l → is_invalid (state_of plan.header past p l) ≡ true

-- What a port keeps between its steps.
pub record IsOrderly (plan : Plan) (past : Trace) (p : ℕ) : Type 0 where
  -- its next operation can't retire with `ok`
  pub unended : is_some_and (next_operation plan past p) (λ op. may_retire plan.header past p op Ok)
      ≡ false
  -- an outstanding read that brings a line in is one of that operation
  pub brought : (i : ℕ) (x : Transaction) → outstanding plan.header past p Read i ≡ Some x
      → brings_line x ≡ true
      → (op : Op) × (k : ℕ) × (next_operation plan past p ≡ Some op)
      × (slice_get (segment past p) k ≡ Some x)
  pub under_way : (op : Op) → next_operation plan past p ≡ Some op → IsUnderWay plan past p op
