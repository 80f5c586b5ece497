-- Step 10: a barrier pair that may be answered has its R and its B.
use Rattle.std.proofs.Common.{◌≡◌, ℕ, Bool, true, false, if◌then◌else◌, List, [], ◌∷◌, Option, Some, None, slice_get, refl, ap, subst, ◌∙◌}
use Rattle.ace_codes.specs.declared.kind.ArKind.{ArKind}
use Rattle.ace_codes.specs.declared.kind.ArKind.TheVariants as read
use Rattle.ace_event.specs.declared.event.Channel.TheVariants.{Read, Write}
use Rattle.ace_event.specs.declared.event.Event.{Event}
use Rattle.ace_event.specs.declared.event.Event.TheVariants.{B}
use Rattle.ace_event.specs.declared.header.Header.{Header}
use Rattle.ace_model.specs.declared.transactions.Transaction.{Transaction}
use Rattle.ace_model.specs.Accepted.{IsAccepted}
use Rattle.ace_model.specs.Barriers.{Pair, number_of, pair_of, pairs}
use Rattle.ace_model.specs.Kinds.{is_line_read, is_read_barrier}
use Rattle.ace_model.specs.Plans.{Plan}
use Rattle.ace_model.specs.Progress.{is_completed}
use Rattle.ace_model.specs.Trace.{Trace, is_some_and}
use Rattle.ace_model.specs.Transactions.{read_kind}
use Rattle.ace_model.proofs.Barriers.Pairs.{pairs-halves}
use Rattle.ace_model.proofs.General.Options.{is_some_and-is}
use Rattle.ace_model.proofs.Trace.Looks.{read_writes_none}
use Rattle.ace_runs.specs.Bursts.{is_kept, may_begin, may_serve}
use Rattle.ace_runs.specs.OrderSteps.{barrier_burst, pair_burst, plain_transfer}
use Rattle.ace_runs.specs.Steps.{AreSteps}
use Rattle.ace_runs.proofs.NeverStuck.Barriers.BothAnswered.{halves-together}
use Rattle.ace_runs.proofs.NeverStuck.Barriers.Together.{AreTogether}
use Rattle.ace_runs.proofs.NeverStuck.Reads.PlainTransfers.{half-there, reads-half}
use Rattle.ace_engine.specs.Engines.{IsLegal, Order, numbers_of}
use Rattle.ace_order.specs.Order.{AreAnsweredTogether, IsAnswerable}
use Rattle.ace_order.proofs.BarrierSteps.{answerable-waits, pair-step}
use Rattle.ace_order.proofs.PlainReads.{IsPlain, kept-undone}
use Rattle.ace_whole_runs.proofs.Interconnect.{GivesStep}
use Rattle.ace_whole_runs.proofs.Services.{MayServe, may-serve}

-- between the steps of a run the halves of each pair are answered together
answered-together : (past : Trace) → AreTogether past → AreAnsweredTogether past
answered-together past t p k b there =
    let halves = pairs-halves past p k b there in
    t.both p k b.read b.write (half-there past p Read k b.read halves.read) (half-there past p Write k b.write halves.write)

barrier-no-line : (k : ArKind) → is_read_barrier k ≡ true → is_line_read k ≡ false
barrier-no-line read.Barrier b = refl
barrier-no-line k b = cc

-- The burst of the step is that of a pair.
record IsOfPair (h : Header) (past : Trace) (x : Transaction) : Type 0 where
  pair : Pair
  reads : is_some_and (read_kind x) is_read_barrier ≡ true
  is : pair_of past x ≡ Some pair
  kept : is_kept h past (plain_transfer pair.read) ≡ true

of-pair : (h : Header) (past : Trace) (x : Transaction) → may_begin h past (barrier_burst h past x) ≡ true → IsOfPair h past x
of-pair h past x begins = by (is_some_and (read_kind x) is_read_barrier) refl (pair_of past x) refl begins
  where
    by : (b : Bool) → is_some_and (read_kind x) is_read_barrier ≡ b → (o : Option Pair) → pair_of past x ≡ o
        → may_begin h past (if b then pair_burst o else []) ≡ true → IsOfPair h past x
    by false none o is begins = cc
    by true reads None is begins = cc
    by true reads (Some b) is begins = record { pair = b; reads = reads; is = is; kept = begins }

answerable : (h : Header) (past : Trace) (p : ℕ) → IsAccepted h past → MayServe barrier_burst h past p → (b : Pair) × IsAnswerable h past p b
answerable h past p a s =
    let o = of-pair h past s.of s.begins in
    let k = is_some_and-is (read_kind s.of) is_read_barrier o.reads in
    let same : o.pair.read ≡ s.of = reads-half past s.of o.pair s.issued o.reads (read_writes_none s.of k.0 k.1).1 o.is in
    let plain : IsPlain h past s.of = record { accepted = a; issued = s.issued; out = s.is_out; kind = k.0; kind_is = k.1; plain = barrier-no-line k.0 k.2 } in
    let undone = kept-undone h past s.of plain (subst (λ (v : Transaction). is_kept h past (plain_transfer v) ≡ true) same o.kept) in (
      o.pair,
      record {
        number = number_of past s.of;
        there = subst (λ q. slice_get (pairs past q) (number_of past s.of) ≡ Some o.pair) s.port o.is;
        undone = ap (is_completed past) same ∙ undone;
        kept = o.kept;
      },
    )

pub gives-barrier : (plan : Plan) (past : Trace) (p : ℕ) → AreSteps plan past → IsLegal plan past
    → may_serve barrier_burst plan.header past p ≡ true → GivesStep (numbers_of Order) plan past p
gives-barrier plan past p steps legal may =
    let h = plan.header in
    let together = answered-together past (halves-together plan past steps) in
    let b = answerable h past p legal.accepted (may-serve barrier_burst h past p may) in
    let w = answerable-waits h past p b.0 legal.accepted together b.1 in
    let burst : List Event = plain_transfer b.0.read ∷ B b.0.write.port b.0.write.id 0 ∷ [] in
    record {
      burst = burst;
      step = pair-step plan past legal p b.0 w b.1.kept;
      own = refl;
    }
