-- An outstanding barrier that isn't complete is answered, where no line transaction of its port is outstanding: its port is enabled by step 10.
use Rattle.std.proofs.Common.{◌≡◌, ℕ, true, false, ◌&&◌, ◌==◌, if◌then◌else◌, [], ◌∷◌, refl, ap, ◌∙◌}
use Rattle.std.proofs.lemmas.Bool.{and_from, or_left, eq-eqb}
use Rattle.ace_codes.specs.declared.kind.ArKind.{ArKind}
use Rattle.ace_codes.specs.declared.kind.ArKind.TheVariants as read
use Rattle.ace_event.specs.declared.event.Channel.TheVariants.{Read}
use Rattle.ace_event.specs.declared.header.Header.{Header}
use Rattle.ace_model.specs.declared.transactions.Transaction.{Transaction}
use Rattle.ace_model.specs.Accepted.{IsAccepted}
use Rattle.ace_model.specs.Barriers.{Pair, is_barrier_half, may_answer, pair_of}
use Rattle.ace_model.specs.Kinds.{is_line_read, is_read_barrier}
use Rattle.ace_model.specs.OrderRules.{is_answered_by_all, may_answer_half}
use Rattle.ace_model.specs.Plans.{Plan}
use Rattle.ace_model.specs.Progress.{is_completed}
use Rattle.ace_model.specs.Trace.{Trace, implies, is_some_and}
use Rattle.ace_model.specs.Transactions.{is_outstanding, read_kind}
use Rattle.ace_model.proofs.Barriers.Pairs.{barriers-half, is_barrier_of-is}
use Rattle.ace_model.proofs.General.Options.{is_some_and-is}
use Rattle.ace_model.proofs.Trace.Growth.{IsIssued, some_issued-found}
use Rattle.ace_runs.specs.Bursts.{is_kept, may_begin, may_serve}
use Rattle.ace_runs.specs.OrderSteps.{barrier_burst, pair_burst, plain_transfer}
use Rattle.ace_runs.specs.Steps.{AreSteps, is_enabled_by}
use Rattle.ace_runs.proofs.Turns.{steps-accepted}
use Rattle.ace_runs.proofs.NeverStuck.Reads.PlainReads.{plain-kept}
use Rattle.ace_runs.proofs.NeverStuck.Reads.TransfersKept.{implied_by}
use Rattle.ace_runs.proofs.NeverStuck.Barriers.BothAnswered.{halves-together, undone-outstanding}
use Rattle.ace_runs.proofs.NeverStuck.Barriers.Halves.{half-no-message, half-reads}
use Rattle.ace_runs.proofs.NeverStuck.Barriers.Together.{half-in}
use Rattle.ace_runs.proofs.NeverStuck.Barriers.OpenPairs.{HasNoLine, IsOpen, may-be-answered, open-pair, pair-is}

barrier-plain : (k : ArKind) → is_read_barrier k ≡ true → is_line_read k ≡ false
barrier-plain read.Barrier b = refl
barrier-plain k b = cc

-- the half on the read channel, and that the R of the pair breaks no rule
pub record ReadAnswered (h : Header) (past : Trace) (p : ℕ) (x : Transaction) : Type 0 where
  pub there : IsIssued past x
  pub port : x.port ≡ p
  pub reads : is_some_and (read_kind x) is_read_barrier ≡ true
  pub out : is_outstanding h past x ≡ true
  pub kept : is_kept h past (plain_transfer x) ≡ true

pub read-answered : (h : Header) (past : Trace) (p : ℕ) (x y : Transaction) → IsAccepted h past → HasNoLine h past p → IsOpen past p x y → ReadAnswered h past p x
read-answered h past p x y a none o =
    let b : Pair = record { read = x; write = y } in
    let i = half-in past p Read o.number x o.first in
    let half = is_barrier_of-is x p Read (barriers-half past p Read o.number x o.first).barrier in
    let reads = half-reads x half.chan i.1 in
    let k = is_some_and-is (read_kind x) is_read_barrier reads in
    let out = undone-outstanding h past x a i.0 o.undone in
    let pair = pair-is past p x y o in
    let may = may-be-answered h past p b a none in
    let answer : is_some_and (pair_of past x) (may_answer past x.port) ≡ true =
    ap (λ q. is_some_and (pair_of past x) (may_answer past q)) half.port ∙ ap (λ v. is_some_and v (may_answer past p)) pair ∙ may in
    let order : may_answer_half past x ≡ true = implied_by (is_barrier_half x) (is_some_and (pair_of past x) (may_answer past x.port)) (λ t. answer) in
    let message = ap (λ v. implies v (is_answered_by_all h past x)) (half-no-message x i.1) in
    let is = plain-kept h past x k.0 a i.0 out o.undone k.1 (barrier-plain k.0 k.2) order message in
    record { there = i.0; port = half.port; reads = reads; out = out; kept = is }

open-answered : (plan : Plan) (past : Trace) (p : ℕ) (x y : Transaction) → IsAccepted plan.header past → HasNoLine plan.header past p → IsOpen past p x y
    → is_enabled_by (10 ∷ []) plan past p ≡ true
open-answered plan past p x y a none o =
    let h = plan.header in
    let r = read-answered h past p x y a none o in
    let begins : may_begin h past (barrier_burst h past x) ≡ true =
    ap (λ v. may_begin h past (if v then pair_burst (pair_of past x) else [])) r.reads ∙ ap (λ v. may_begin h past (pair_burst v)) (pair-is past p x y o) ∙ r.kept in
    let serves : may_serve barrier_burst h past p ≡ true =
    some_issued-found past (λ y. (y.port == p) && is_outstanding h past y && may_begin h past (barrier_burst h past y)) x.place x r.there.there
    (and_from _ _ (and_from _ _ (eq-eqb x.port p r.port) r.out) begins) in
    or_left (may_serve barrier_burst h past p) _ serves

-- Where no line transaction of its port is outstanding, the port of a barrier that isn't complete is enabled by step 10.
pub barrier-moves : (plan : Plan) (past : Trace) (x : Transaction) → AreSteps plan past → IsIssued past x → is_barrier_half x ≡ true → is_completed past x ≡ false
    → HasNoLine plan.header past x.port → is_enabled_by (10 ∷ []) plan past x.port ≡ true
barrier-moves plan past x s i half undone none =
    let o = open-pair past x (halves-together plan past s) i half undone in
    open-answered plan past x.port o.0 o.1 (steps-accepted plan past s) none o.2
