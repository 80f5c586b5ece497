-- Operations that pass by the cache ask for it first to give the line up, or to clean it; those that update memory ask for the update.
use Rattle.std.proofs.Common.{◌≡◌, ℕ, Bool, true, false, not, Some, refl, ap, ◌∙◌, inl}
use Rattle.std.proofs.lemmas.Bool.{or_left, or_right}
use Rattle.ace_codes.specs.declared.kind.ArKind.{ArKind}
use Rattle.ace_codes.specs.declared.kind.ArKind.TheVariants as read
use Rattle.ace_codes.specs.declared.kind.AwKind.{AwKind}
use Rattle.ace_codes.specs.declared.kind.AwKind.TheVariants as write
use Rattle.ace_codes.specs.declared.state.LineState.{LineState}
use Rattle.ace_codes.specs.declared.state.LineState.TheVariants.{I, UC, UD, SC, SD}
use Rattle.ace_event.specs.declared.header.Header.{Header}
use Rattle.ace_event.specs.declared.line.Line.{Line}
use Rattle.ace_tables.specs.SilentTransitions.{is_silent_move}
use Rattle.ace_tables.specs.StartStates.{starts_read, starts_write}
use Rattle.ace_tables.specs.States.{is_invalid}
use Rattle.ace_model.specs.declared.plans.Op.{Op}
use Rattle.ace_model.specs.declared.plans.Op.TheVariants.{Wb, Wc, Ev, We, Ro, Cs, Ci, Mi, Wu, Wlu}
use Rattle.ace_model.specs.Accepted.{IsAccepted}
use Rattle.ace_model.specs.Kinds.{is_line_read, is_line_write, is_lite_read, is_lite_write, is_no_snoop_read, is_no_snoop_write}
use Rattle.ace_model.specs.Plans.{Plan, line_named, wants_no_snoop}
use Rattle.ace_model.specs.States.{state_of}
use Rattle.ace_model.specs.Trace.{Trace}
use Rattle.ace_model.specs.Transactions.{has_outstanding_on, is_ace}
use Rattle.ace_runs.specs.Requests.{Request, Reads, Writes, cleans_first, gives_up_first}
use Rattle.ace_runs.proofs.NeverStuck.Operations.Kept.AsksKept.{DropFits, WriteFits}
use Rattle.ace_runs.proofs.NeverStuck.Operations.Fits.Asking.{IsAsking, IsFit, held-write, own-read, own-write}
use Rattle.ace_runs.proofs.NeverStuck.Operations.Lines.Classes.{held-line}
use Rattle.ace_runs.proofs.NeverStuck.Operations.Fits.Ends.{not-skipped}
use Rattle.ace_runs.proofs.NeverStuck.Operations.Lines.OfPlan.{planned-ace}

drop-fits : (h : Header) (past : Trace) (p a : ℕ) → IsAccepted h past → has_outstanding_on h past p a ≡ false → is_invalid (state_of h past p a) ≡ false → is_silent_move (state_of h past p a) I ≡ true → DropFits h past p a
drop-fits h past p a accepted quiet held moves = let of = held-line h past p a accepted held in record { quiet = quiet; ace = of.ace; aligned = of.aligned; moves = moves }

-- What a port that holds the line asks for first fits.
gives-up-fits : (h : Header) (past : Trace) (p a : ℕ) (next : Request) → IsAccepted h past → has_outstanding_on h past p a ≡ false → (state_of h past p a ≡ I → IsFit h past p next)
    → IsFit h past p (gives_up_first a (state_of h past p a) next)
gives-up-fits h past p a next accepted quiet fits = by (state_of h past p a) refl
  where
    held : (st : LineState) → state_of h past p a ≡ st → is_invalid st ≡ false → is_invalid (state_of h past p a) ≡ false
    held st is valid = ap is_invalid is ∙ valid

    by : (st : LineState) → state_of h past p a ≡ st → IsFit h past p (gives_up_first a st next)
    by I is = fits is
    by UC is = drop-fits h past p a accepted quiet (held UC is refl) (ap (λ st. is_silent_move st I) is)
    by SC is = drop-fits h past p a accepted quiet (held SC is refl) (ap (λ st. is_silent_move st I) is)
    by UD is = held-write h past p a write.WriteBack (held-line h past p a accepted (held UD is refl)) quiet refl refl (ap (starts_write write.WriteBack) is)
    by SD is = held-write h past p a write.WriteBack (held-line h past p a accepted (held SD is refl)) quiet refl refl (ap (starts_write write.WriteBack) is)

cleans-fits : (h : Header) (past : Trace) (p a : ℕ) (next : Request) → IsAccepted h past → has_outstanding_on h past p a ≡ false
    → ((st : LineState) → state_of h past p a ≡ st → starts_read read.CleanShared st ≡ true → IsFit h past p next)
    → IsFit h past p (cleans_first a (state_of h past p a) next)
cleans-fits h past p a next accepted quiet fits = by (state_of h past p a) refl
  where
    by : (st : LineState) → state_of h past p a ≡ st → IsFit h past p (cleans_first a st next)
    by I is = fits I is refl
    by UC is = fits UC is refl
    by SC is = fits SC is refl
    by UD is = held-write h past p a write.WriteClean (held-line h past p a accepted (ap is_invalid is)) quiet refl refl (ap (starts_write write.WriteClean) is)
    by SD is = held-write h past p a write.WriteClean (held-line h past p a accepted (ap is_invalid is)) quiet refl refl (ap (starts_write write.WriteClean) is)

module _ (plan : Plan) (past : Trace) (p a : ℕ) where
  abbrev h : Header
  h = plan.header

  -- a read that passes by the cache
  read-by-fits : (op : Op) (k : ArKind) → IsAsking plan past p op → line_named op ≡ Some a → is_line_read k ≡ true → is_lite_read k ≡ true → wants_no_snoop op ≡ is_no_snoop_read k
      → starts_read k I ≡ true → IsFit h past p (gives_up_first a (state_of h past p a) (Reads k a false))
  read-by-fits op k q line of lite same starts =
      gives-up-fits h past p a (Reads k a false) q.accepted (q.free a line)
      (λ none. inl (own-read plan past p op q k a false line of same (or_right (is_ace h p) (is_lite_read k) lite) refl (ap (starts_read k) none ∙ starts)))

  -- a write that passes by the cache
  write-by-fits : (op : Op) (k : AwKind) → IsAsking plan past p op → line_named op ≡ Some a → is_line_write k ≡ true → is_lite_write k ≡ true → wants_no_snoop op ≡ is_no_snoop_write k
      → starts_write k I ≡ true → IsFit h past p (gives_up_first a (state_of h past p a) (Writes k a))
  write-by-fits op k q line of lite same starts =
      gives-up-fits h past p a (Writes k a) q.accepted (q.free a line)
      (λ none. own-write plan past p op q k a line of same (or_right (is_ace h p) (is_lite_write k) lite) (ap (starts_write k) none ∙ starts))

  pub read-once-fits : IsAsking plan past p (Ro a) → IsFit h past p (gives_up_first a (state_of h past p a) (Reads read.ReadOnce a false))
  read-once-fits q = read-by-fits (Ro a) read.ReadOnce q refl refl refl refl refl

  pub clean-invalid-fits : IsAsking plan past p (Ci a) → IsFit h past p (gives_up_first a (state_of h past p a) (Reads read.CleanInvalid a false))
  clean-invalid-fits q = read-by-fits (Ci a) read.CleanInvalid q refl refl refl refl refl

  pub make-invalid-fits : IsAsking plan past p (Mi a) → IsFit h past p (gives_up_first a (state_of h past p a) (Reads read.MakeInvalid a false))
  make-invalid-fits q = read-by-fits (Mi a) read.MakeInvalid q refl refl refl refl refl

  pub write-unique-fits : (strobe : ℕ) (line : Line) → IsAsking plan past p (Wu a strobe line)
      → IsFit h past p (gives_up_first a (state_of h past p a) (Writes write.WriteUnique a))
  write-unique-fits strobe line q = write-by-fits (Wu a strobe line) write.WriteUnique q refl refl refl refl refl

  pub write-line-unique-fits : (line : Line) → IsAsking plan past p (Wlu a line) → IsFit h past p (gives_up_first a (state_of h past p a) (Writes write.WriteLineUnique a))
  write-line-unique-fits line q = write-by-fits (Wlu a line) write.WriteLineUnique q refl refl refl refl refl

  pub clean-shared-fits : IsAsking plan past p (Cs a) → IsFit h past p (cleans_first a (state_of h past p a) (Reads read.CleanShared a false))
  clean-shared-fits q =
      cleans-fits h past p a (Reads read.CleanShared a false) q.accepted (q.free a refl)
      (λ st is starts. inl (own-read plan past p (Cs a) q read.CleanShared a false refl refl refl (or_right (is_ace h p) (is_lite_read read.CleanShared) refl) refl (ap (starts_read read.CleanShared) is ∙ starts)))

  -- an operation that gives a line up or updates memory, where there is something to do
  update-fits : (op : Op) (k : AwKind) → IsAsking plan past p op → line_named op ≡ Some a → is_line_write k ≡ true → wants_no_snoop op ≡ is_no_snoop_write k → is_ace h p ≡ true
      → not (starts_write k (state_of h past p a)) ≡ false → WriteFits h past p k a
  update-fits op k q line of same ace starts = own-write plan past p op q k a line of same (or_left _ _ ace) (by (starts_write k (state_of h past p a)) starts)
    where
      by : (b : Bool) → not b ≡ false → b ≡ true
      by true f = refl
      by false f = cc

  pub write-back-fits : IsAsking plan past p (Wb a) → WriteFits h past p write.WriteBack a
  write-back-fits q = update-fits (Wb a) write.WriteBack q refl refl refl (planned-ace plan p (Wb a) q.planned refl) (not-skipped h past p (Wb a) q.made q.stays)

  pub write-clean-fits : IsAsking plan past p (Wc a) → WriteFits h past p write.WriteClean a
  write-clean-fits q = update-fits (Wc a) write.WriteClean q refl refl refl (planned-ace plan p (Wc a) q.planned refl) (not-skipped h past p (Wc a) q.made q.stays)

  pub evict-fits : IsAsking plan past p (Ev a) → WriteFits h past p write.Evict a
  evict-fits q = update-fits (Ev a) write.Evict q refl refl refl (planned-ace plan p (Ev a) q.planned refl) (not-skipped h past p (Ev a) q.made q.stays)

  pub write-evict-fits : IsAsking plan past p (We a) → WriteFits h past p write.WriteEvict a
  write-evict-fits q = update-fits (We a) write.WriteEvict q refl refl refl (planned-ace plan p (We a) q.planned refl) (not-skipped h past p (We a) q.made q.stays)
