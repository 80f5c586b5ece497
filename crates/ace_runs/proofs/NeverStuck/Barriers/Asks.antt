-- What step 14 issues: for an operation that is no barrier transactions of the port that are none; for a barrier its two halves; and a DVM
-- Complete.
use Rattle.std.proofs.Common.{◌≡◌, ℕ, Bool, true, false, ◌&&◌, ◌==◌, if◌then◌else◌, List, refl, sym, ap, ◌∙◌}
use Rattle.std.specs.List.{list_all}
use Rattle.std.proofs.lemmas.Bool.{and_from, eq-eqb}
use Rattle.ace_codes.specs.declared.kind.ArKind.TheVariants as read
use Rattle.ace_codes.specs.declared.kind.AwKind.TheVariants as write
use Rattle.ace_codes.specs.declared.state.LineState.{LineState}
use Rattle.ace_event.specs.declared.event.Event.{Event}
use Rattle.ace_event.specs.declared.header.Header.{Header}
use Rattle.ace_tables.specs.States.{is_dirty, is_invalid}
use Rattle.ace_model.specs.declared.plans.Op.{Op}
use Rattle.ace_model.specs.declared.plans.Op.TheVariants as op
use Rattle.ace_model.specs.Trace.{Trace}
use Rattle.ace_runs.specs.Closing.{state_named}
use Rattle.ace_runs.specs.Requests.{Request, Reads, Misses, Writes, Drops, Barriers, gives_up_first, moves_of, request_of}
use Rattle.ace_runs.proofs.NeverStuck.Steps.Lists.{all-implied}
use Rattle.ace_runs.proofs.NeverStuck.Steps.Asking.{Asks, moves-all}
use Rattle.ace_runs.proofs.NeverStuck.Steps.Concluding.{Concludes}
use Rattle.ace_runs.proofs.NeverStuck.Barriers.Acts.{is_barrier_operation}
use Rattle.ace_runs.proofs.NeverStuck.Barriers.Quiet.{is_ordinary, is_quiet, issues_no_line, quiet-ordinary, quiet-no-line}

pub all-ordinary : (p : ℕ) (burst : List Event) → list_all is_quiet burst ≡ true → list_all (is_ordinary p) burst ≡ true
all-ordinary p burst m = all-implied is_quiet (is_ordinary p) (quiet-ordinary p) burst m

pub all-no-line : (burst : List Event) → list_all is_quiet burst ≡ true → list_all issues_no_line burst ≡ true
all-no-line burst m = all-implied is_quiet issues_no_line quiet-no-line burst m

-- ---- what an operation that is no barrier asks for ---------------------------------------------------

-- the request is a barrier
abbrev is_barrier_request : Request → Bool
is_barrier_request (Barriers bar) = true
is_barrier_request _ = false

no-barrier-if : (b : Bool) (r s : Request) → is_barrier_request r ≡ false → is_barrier_request s ≡ false → is_barrier_request (if b then r else s) ≡ false
no-barrier-if true r s x y = x
no-barrier-if false r s x y = y

gives-up-no-barrier : (a : ℕ) (st : LineState) (r : Request) → is_barrier_request r ≡ false → is_barrier_request (gives_up_first a st r) ≡ false
gives-up-no-barrier a st r none = no-barrier-if (is_invalid st) r _ none (no-barrier-if (is_dirty st) (Writes write.WriteBack a) (Drops a) refl refl)

request-no-barrier : (o : Op) (st : LineState) → is_barrier_operation o ≡ false → is_barrier_request (request_of o st) ≡ false
request-no-barrier op.Mb st none = cc
request-no-barrier op.Sb st none = cc
request-no-barrier (op.St a w word) st none = no-barrier-if (is_invalid st) (Misses read.ReadUnique a false) (Reads read.CleanUnique a false) refl refl
request-no-barrier (op.Fill a line) st none = no-barrier-if (is_invalid st) (Misses read.MakeUnique a false) (Reads read.MakeUnique a false) refl refl
request-no-barrier (op.Ro a) st none = gives-up-no-barrier a st (Reads read.ReadOnce a false) refl
request-no-barrier (op.Ci a) st none = gives-up-no-barrier a st (Reads read.CleanInvalid a false) refl
request-no-barrier (op.Mi a) st none = gives-up-no-barrier a st (Reads read.MakeInvalid a false) refl
request-no-barrier (op.Wu a strobe line) st none = gives-up-no-barrier a st (Writes write.WriteUnique a) refl
request-no-barrier (op.Wlu a line) st none = gives-up-no-barrier a st (Writes write.WriteLineUnique a) refl
request-no-barrier (op.Cs a) st none = no-barrier-if (is_dirty st) (Writes write.WriteClean a) (Reads read.CleanShared a false) refl refl
request-no-barrier o st none = refl

pub ordinary-asks : (p : ℕ) → Asks p (is_ordinary p)
ordinary-asks p = record { reads = λ i a code dom lock. own; writes = λ i a code dom. own; drops = λ a st. refl }
  where
    own : ((p == p) && true) ≡ true
    own = and_from _ _ (eq-eqb p p refl) refl

ordinary-concludes : (p : ℕ) → Concludes p (is_ordinary p)
ordinary-concludes p = record { reads = λ st. refl; writes = λ st. refl; loads = λ a w x word. refl; stores = λ a s x line. refl; retires = λ k res. refl }

pub moves-ordinary : (ways : ℕ) (h : Header) (past : Trace) (p : ℕ) (o : Op) → is_barrier_operation o ≡ false → list_all (list_all (is_ordinary p)) (moves_of ways h past p o) ≡ true
moves-ordinary ways h past p o none =
    moves-all p (is_ordinary p) (ordinary-asks p) (ordinary-concludes p) ways h past o
    (λ bar i is. let bad : false ≡ true = sym (request-no-barrier o (state_named h past p o) none) ∙ ap is_barrier_request is in cc)
