-- Both halves of a barrier are a step: they break no rule, obey the plan and are lean.
use Rattle.std.proofs.Common.{◌≡◌, ℕ, ◌+◌, ◌*◌, Bool, true, false, not, ◌&&◌, ◌||◌, ◌==◌, nat_lt, if◌then◌else◌, List, [], ◌∷◌, ◌++◌, length, map, Some, None, slice_get, refl, sym, ap, ◌∙◌, arith}
use Rattle.std.proofs.Math.Bool.{and-false}
use Rattle.std.specs.List.{list_all}
use Rattle.std.proofs.lemmas.Bool.{and_from, and_parts, eq-eqb, or_left}
use Rattle.ace_codes.specs.declared.kind.ArKind.TheVariants as read
use Rattle.ace_codes.specs.declared.kind.AwKind.TheVariants as write
use Rattle.ace_codes.specs.Reads.{ar_code, ar_kind_of}
use Rattle.ace_codes.specs.Writes.{aw_code, aw_kind_of}
use Rattle.ace_event.specs.declared.event.Channel.TheVariants.{Read, Write}
use Rattle.ace_event.specs.declared.event.Event.{Event}
use Rattle.ace_event.specs.declared.header.Header.{Header}
use Rattle.ace_model.specs.declared.plans.Op.{Op}
use Rattle.ace_model.specs.declared.transactions.Transaction.{Transaction}
use Rattle.ace_model.specs.Barriers.{barriers}
use Rattle.ace_model.specs.Kinds.{has_write_data, is_dvm_complete, is_line_read, is_line_write}
use Rattle.ace_model.specs.Plans.{Plan}
use Rattle.ace_model.specs.Trace.{Trace, implies, is_some_and, more}
use Rattle.ace_model.specs.Transactions.{has_outstanding_on, is_line, is_outstanding}
use Rattle.ace_model.specs.Writes.{data_writes}
use Rattle.ace_model.proofs.Outstanding.Steps.{outstanding_new_one}
use Rattle.ace_model.proofs.Trace.Outstanding.{read_issued, write_issued}
use Rattle.ace_runs.specs.Acts.{acts_of, begins_on_reads, begins_on_writes, is_act, is_act_read, is_act_transaction, is_act_write}
use Rattle.ace_runs.specs.Bursts.{is_kept}
use Rattle.ace_runs.specs.Closing.{and_closing, closing_of}
use Rattle.ace_runs.specs.Operations.{next_operation}
use Rattle.ace_runs.specs.Requests.{Barriers, barrier_halves, free_on_both, identifiers, is_free, moves_of, with_identifier}
use Rattle.ace_runs.specs.Retiring.{are_acts_done}
use Rattle.ace_runs.specs.Segments.{acts_made, is_for_operation, segment}
use Rattle.ace_runs.specs.Steps.{is_enabled_by}
use Rattle.ace_runs.proofs.NeverStuck.Barriers.Acts.{is_barrier_operation}
use Rattle.ace_runs.proofs.NeverStuck.Operations.Identifiers.{least-low}
use Rattle.ace_runs.proofs.NeverStuck.Operations.Kept.AsksKept.{implies-none}
use Rattle.ace_runs.proofs.NeverStuck.Operations.Kept.BarriersKept.{HasNoHalf, read-half, read-half-kept, write-half, write-half-kept}
use Rattle.ace_runs.proofs.NeverStuck.Operations.SegmentOf.{no-half}
use Rattle.ace_runs.proofs.NeverStuck.Phases.BothHalves.{one_half, paced}
use Rattle.ace_engine.specs.Engines.{IsLegal}
use Rattle.ace_engine.proofs.LegalSteps.{legal-more}
use Rattle.ace_master.specs.Lite.{AreIssued, LiteTells, are_none_or_all, own_steps}
use Rattle.ace_master.specs.Issues.{barrier_ar, barrier_aw}
use Rattle.ace_master.proofs.LiteMoves.{closing-none, goes-step, lite-moves, moves-asking}
use Rattle.ace_master.proofs.LiteNext.{IsNext, unasked}
use Rattle.ace_master.proofs.LiteOperations.{IsBarrier}
use Rattle.ace_master.proofs.Obeying.{ar-obeys, aw-obeys, issue-lean}

-- the halves, one after the other
abbrev pub first-half : Trace → ℕ → ℕ → ℕ → Transaction
first-half past p bar i = read_issued past p i 0 (ar_code read.Barrier) 1 bar false

abbrev pub second-half : Trace → ℕ → ℕ → ℕ → Transaction
second-half past p bar i = write_issued (barrier_ar p i bar ∷ past) p i 0 (aw_code write.Barrier) 1 bar

last-undone : (a c d : Bool) → c ≡ true → d ≡ true → (a && (implies c (not d) && true)) ≡ false
last-undone true c d x y = rw (x, y) refl
last-undone false c d x y = refl

module _ (plan : Plan) (past : Trace) (p : ℕ) (legal : IsLegal plan past) (operations : List Op) (t : LiteTells plan past p operations None None None)
    (op : Op) (next : next_operation plan past p ≡ Some op) (bar : ℕ) (b : IsBarrier op bar) where
  abbrev h : Header
  h = plan.header

  some-act : (0 == length (acts_of op)) ≡ false
  some-act = ap (λ (fs : List (Event → Bool)). 0 == length fs) b.acts

  moves-are : moves_of plan.ways h past p op ≡ map (and_closing h past p op) (with_identifier (free_on_both h past p) (barrier_halves p bar))
  moves-are =
      moves-asking plan past p legal t.lite op b.plain some-act t.issued.segment_is t.issued.made (ap (λ o. is_some_and o (has_outstanding_on h past p)) b.line) plan.ways (Barriers bar) b.asks

  -- where no identifier is free on both channels, no step is enabled
  pub no-barrier : free_on_both h past p ≡ None → is_enabled_by own_steps plan past p ≡ false
  no-barrier full =
      unasked plan past p legal operations op t next some-act
      (lite-moves plan past p legal t.lite plan.ways op ∙ moves-are ∙ ap (λ o. map (and_closing h past p op) (with_identifier o (barrier_halves p bar))) full)

  many : length (barriers past p Read) ≡ length (barriers past p Write)
  many =
      let none : one_half plan past p ≡ false =
      ap (λ n. is_some_and (next_operation plan past p) is_barrier_operation && (n == 1)) t.issued.made ∙ and-false (is_some_and (next_operation plan past p) is_barrier_operation) in
      let same = paced plan past p legal.follows ∙ ap (λ v. length (barriers past p Write) + (if v then 1 else 0)) none in
      omega (arith, same)

  none-out : HasNoHalf h past p
  none-out = no-half plan past p legal.follows t.issued.made

  module _ (i : ℕ) (first : free_on_both h past p ≡ Some i) where
    abbrev d : Event
    d = barrier_ar p i bar

    abbrev e : Event
    e = barrier_aw p i bar

    abbrev x : Transaction
    x = first-half past p bar i

    abbrev y : Transaction
    y = second-half past p bar i

    abbrev midway : Trace
    midway = d ∷ past

    abbrev now : Trace
    now = e ∷ d ∷ past

    free : (is_free h past p Read i ≡ true) × (is_free h past p Write i ≡ true)
    free = and_parts (is_free h past p Read i) (is_free h past p Write i) (least-low identifiers (λ i. is_free h past p Read i && is_free h past p Write i) i first).1

    read-kind : ar_kind_of (ar_code read.Barrier) 1 bar ≡ Some read.Barrier
    read-kind = read-half bar b.is

    write-kind : aw_kind_of (aw_code write.Barrier) 1 bar ≡ Some write.Barrier
    write-kind = write-half bar b.is

    kept-first : is_kept h past d ≡ true
    kept-first = read-half-kept h past p legal.accepted many t.low none-out bar i b.is free.0

    kept-second : is_kept h midway e ≡ true
    kept-second = write-half-kept h past p legal.accepted many t.low none-out bar i b.is free.1

    -- ---- after the first ----

    after-first : IsLegal plan midway
    after-first =
        let obeying = ar-obeys plan past legal.follows p i 0 (ar_code read.Barrier) 1 bar false op (begins_on_reads bar) next
        (ap (slice_get (acts_of op)) t.issued.made ∙ ap (λ (fs : List (Event → Bool)). slice_get fs 0) b.acts) (and_from _ _ (and_from _ _ (and_from _ _ b.is refl) refl) (eq-eqb bar bar refl)) in
        let lean = issue-lean plan past d x op refl refl next (ap (λ (xs : List Transaction). nat_lt (length xs) 3) t.issued.segment_is)
        (implies-none (is_line x) _ (ap (λ o. is_some_and o is_line_read || false) read-kind)) in
        legal-more plan past d legal kept-first obeying lean

    segment-then : segment midway p ≡ x ∷ []
    segment-then =
        let own : is_for_operation p x ≡ true = and_from _ _ (eq-eqb p p refl) (ap not (ap (λ o. is_some_and o is_dvm_complete) read-kind)) in
        ap (λ v. more (segment past p) (if v then Some x else None)) own ∙ ap (λ (xs : List Transaction). xs ++ x ∷ []) t.issued.segment_is

    first-act : is_act_transaction x ≡ true
    first-act = or_left (is_some_and (ar_kind_of (ar_code read.Barrier) 1 bar) is_act_read) _ (ap (λ o. is_some_and o is_act_read) read-kind)

    made-then : acts_made midway p ≡ 1
    made-then = ap (λ v. if v then acts_made past p + 1 else acts_made past p) (and_from (p == p) (is_act d) (eq-eqb p p refl) first-act) ∙ ap (λ n. n + 1) t.issued.made

    writes-then : data_writes midway p ≡ data_writes past p
    writes-then = ap (λ v. more (data_writes past p) (if v then Some x else None)) (and-false (p == p))

    -- ---- after both ----

    after-both : IsLegal plan now
    after-both =
        let obeying = aw-obeys plan midway after-first.follows p i 0 (aw_code write.Barrier) 1 bar op (begins_on_writes bar) next
        (ap (slice_get (acts_of op)) made-then ∙ ap (λ (fs : List (Event → Bool)). slice_get fs 1) b.acts) (and_from _ _ (and_from _ _ (and_from _ _ b.is refl) refl) (eq-eqb bar bar refl)) in
        let lean = issue-lean plan midway e y op refl refl next (ap (λ (xs : List Transaction). nat_lt (length xs) 3) segment-then)
        (implies-none (is_line y) _ (ap (λ o. is_some_and o is_line_write) write-kind)) in
        legal-more plan midway e after-first kept-second obeying lean

    segment-now : segment now p ≡ x ∷ y ∷ []
    segment-now =
        let own : is_for_operation p y ≡ true = and_from _ _ (eq-eqb p p refl) refl in
        ap (λ v. more (segment midway p) (if v then Some y else None)) own ∙ ap (λ (xs : List Transaction). xs ++ y ∷ []) segment-then

    second-act : is_act_transaction y ≡ true
    second-act = ap (λ o. is_some_and o is_act_write) write-kind

    made-now : acts_made now p ≡ 2
    made-now = ap (λ v. if v then acts_made midway p + 1 else acts_made midway p) (and_from (p == p) (is_act e) (eq-eqb p p refl) second-act) ∙ ap (λ n. n + 1) made-then

    writes-now : data_writes now p ≡ data_writes past p
    writes-now =
        let none = ap (λ o. (p == p) && is_some_and o has_write_data) write-kind ∙ and-false (p == p) in
        ap (λ v. more (data_writes midway p) (if v then Some y else None)) none ∙ writes-then

    undone : are_acts_done h now p ≡ false
    undone =
        ap (list_all (λ x. implies (is_act_transaction x) (not (is_outstanding h now x)))) segment-now
        ∙ last-undone (implies (is_act_transaction x) (not (is_outstanding h now x))) (is_act_transaction y) (is_outstanding h now y) second-act (outstanding_new_one h midway e y refl)

    closing : closing_of h now p op ≡ []
    closing =
        closing-none h now p op b.plain
        (ap (λ v. (acts_made now p == length (acts_of op)) && v) (b.met h now p ∙ undone) ∙ and-false (acts_made now p == length (acts_of op)))

    moves-now : moves_of plan.ways h past p op ≡ (d ∷ e ∷ []) ∷ []
    moves-now =
        moves-are ∙ ap (λ o. map (and_closing h past p op) (with_identifier o (barrier_halves p bar))) first ∙ ap (λ (end : List Event). (d ∷ e ∷ end) ∷ []) closing

    issued-now : AreIssued plan now p (x ∷ y ∷ [])
    issued-now = record {
      segment_is = segment-now;
      made = made-now;
      acts = and_from _ _ first-act (and_from _ _ second-act refl);
      whole = ap (λ o. are_none_or_all o (x ∷ y ∷ [])) next ∙ and_from _ _ b.awaits (ap (λ (fs : List (Event → Bool)). 2 == length fs) b.acts);
    }

    -- both halves are a step
    pub barrier-next : IsNext plan past p (d ∷ e ∷ []) operations (Some x) (Some y) None
    barrier-next = record {
      step = goes-step plan past p legal t.lite op (d ∷ e ∷ []) next (and_from _ _ (and_from _ _ refl refl) (and_from _ _ kept-first (and_from _ _ kept-second refl))) moves-now;
      legal = after-both;
      tells = record {
        low = t.low;
        lite = t.lite;
        operations_are = t.operations_are;
        issued = issued-now;
        sent = t.sent ∙ sym (ap (λ (xs : List Transaction). 4 * length xs) writes-now);
      };
    }
