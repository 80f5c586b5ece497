-- An operation of a port that can't end and has made no act, and what makes that what it asks for fits.
use Rattle.std.proofs.Common.{◌≡◌, ◌⊎◌, ℕ, Bool, true, false, ◌&&◌, Some, None, is_some, sym, subst}
use Rattle.std.specs.List.{list_any}
use Rattle.std.proofs.lemmas.Bool.{or_left}
use Rattle.ace_codes.specs.Places.{is_barrier}
use Rattle.ace_codes.specs.declared.kind.ArKind.{ArKind}
use Rattle.ace_codes.specs.declared.kind.ArKind.TheVariants as read
use Rattle.ace_codes.specs.declared.kind.AwKind.{AwKind}
use Rattle.ace_event.specs.declared.header.Header.{Header}
use Rattle.ace_tables.specs.StartStates.{starts_read, starts_write}
use Rattle.ace_model.specs.declared.plans.Op.{Op}
use Rattle.ace_model.specs.declared.plans.Op.TheVariants.{Pf, Sync}
use Rattle.ace_model.specs.Accepted.{IsAccepted}
use Rattle.ace_model.specs.AddressRules.{is_aligned, may_issue_read, may_issue_write}
use Rattle.ace_model.specs.Kinds.{is_line_read, is_line_write, is_no_snoop_read, is_no_snoop_write, may_be_exclusive}
use Rattle.ace_model.specs.Messages.{first_waiting, has_second, is_sync_completed, last_sync}
use Rattle.ace_model.specs.Plans.{Plan, line_named, wants_no_snoop}
use Rattle.ace_model.specs.States.{state_of}
use Rattle.ace_model.specs.Trace.{Trace, implies}
use Rattle.ace_model.specs.Transactions.{has_outstanding_on, is_ace}
use Rattle.ace_model.proofs.General.Options.{is_none_or-at}
use Rattle.ace_runs.specs.Requests.{Request, Reads, Misses, Writes, Drops, Barriers, Messages}
use Rattle.ace_runs.specs.Retiring.{has_read}
use Rattle.ace_runs.specs.Segments.{acts_made, is_read_of, segment}
use Rattle.ace_runs.proofs.NeverStuck.Operations.Kept.AsksKept.{DropFits, IsOfClass, ReadFits, WriteFits}
use Rattle.ace_runs.proofs.NeverStuck.Operations.Lines.Classes.{IsHeld}
use Rattle.ace_runs.proofs.NeverStuck.Operations.Fits.Ends.{CanNotEnd}
use Rattle.ace_runs.proofs.NeverStuck.Operations.Kept.MessagesKept.{MessageFits}
use Rattle.ace_runs.proofs.NeverStuck.Operations.Lines.OfPlan.{IsPlanned}

-- What makes that a request breaks no rule: it fits the port, its state and the line.
abbrev pub IsFit : Header → Trace → ℕ → Request → Type 0
IsFit h past p (Reads k a lock) = ReadFits h past p k a lock ⊎ ((k ≡ read.DvmMessage) × (lock ≡ false) × MessageFits h past p a)
IsFit h past p (Misses k a lock) = ReadFits h past p k a lock
IsFit h past p (Writes k a) = WriteFits h past p k a
IsFit h past p (Drops a) = DropFits h past p a
IsFit h past p (Barriers bar) = is_barrier bar ≡ true
IsFit h past p (Messages word second) = MessageFits h past p word × (has_second word ≡ true)

-- the reads of its line that a read ahead has issued are of its kind
abbrev pub FetchesAsAsked : Trace → ℕ → Op → Type 0
FetchesAsAsked past p (Pf a k) = has_read past p a ≡ true → list_any (is_read_of k a) (segment past p) ≡ true
FetchesAsAsked past p _ = Unit {0}

-- where the port is to issue a Sync, its last one is completed
abbrev pub IsSynced : Trace → ℕ → Op → Type 0
IsSynced past p (Sync word) = implies (is_some (last_sync past p)) (is_sync_completed past p) ≡ true
IsSynced past p _ = Unit {0}

-- The port's operation is one of a right plan and has made no act, no transaction of the port on its line is outstanding, and the operation can't end.
pub record IsAsking (plan : Plan) (past : Trace) (p : ℕ) (op : Op) : Type 0 where
  pub accepted : IsAccepted plan.header past
  pub planned : IsPlanned plan p op
  pub alike : (a : ℕ) → line_named op ≡ Some a → IsOfClass past a (wants_no_snoop op)
  pub whole : first_waiting past p ≡ None
  pub as_asked : FetchesAsAsked past p op
  pub synced : IsSynced past p op
  pub free : (a : ℕ) → line_named op ≡ Some a → has_outstanding_on plan.header past p a ≡ false
  pub made : acts_made past p ≡ 0
  pub stays : CanNotEnd plan.header past p op

module _ (plan : Plan) (past : Trace) (p : ℕ) (op : Op) (q : IsAsking plan past p op) where
  abbrev h : Header
  h = plan.header

  pub own-aligned : (a : ℕ) → line_named op ≡ Some a → is_aligned a ≡ true
  own-aligned a line = is_none_or-at (line_named op) is_aligned a q.planned.aligned line

  -- a read of its line
  pub own-read : (k : ArKind) (a : ℕ) (lock : Bool) → line_named op ≡ Some a → is_line_read k ≡ true → wants_no_snoop op ≡ is_no_snoop_read k → may_issue_read h p k ≡ true
      → implies lock (is_ace h p && may_be_exclusive k) ≡ true → starts_read k (state_of h past p a) ≡ true → ReadFits h past p k a lock
  own-read k a lock line of same may locked starts =
      record { quiet = q.free a line; line = of; may = may; aligned = own-aligned a line; starts = starts; locked = locked; alike = subst (IsOfClass past a) same (q.alike a line) }

  -- a write of its line
  pub own-write : (k : AwKind) (a : ℕ) → line_named op ≡ Some a → is_line_write k ≡ true → wants_no_snoop op ≡ is_no_snoop_write k → may_issue_write h p k ≡ true
      → starts_write k (state_of h past p a) ≡ true → WriteFits h past p k a
  own-write k a line of same may starts =
      record { quiet = q.free a line; line = of; may = may; aligned = own-aligned a line; starts = starts; alike = subst (IsOfClass past a) same (q.alike a line) }

-- a write of a line that the port holds
pub held-write : (h : Header) (past : Trace) (p a : ℕ) (k : AwKind) → IsHeld h past p a → has_outstanding_on h past p a ≡ false → is_line_write k ≡ true → is_no_snoop_write k ≡ false
    → starts_write k (state_of h past p a) ≡ true → WriteFits h past p k a
held-write h past p a k held quiet of snoops starts =
    record { quiet = quiet; line = of; may = or_left _ _ held.ace; aligned = held.aligned; starts = starts; alike = subst (IsOfClass past a) (sym snoops) held.alike }
