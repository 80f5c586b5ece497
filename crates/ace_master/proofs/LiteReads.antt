-- The AR of an operation that reads is a step: it breaks no rule, obeys the plan and is lean.
use Rattle.std.proofs.Common.{◌≡◌, ℕ, ◌+◌, ◌*◌, Bool, true, false, not, ◌&&◌, ◌||◌, ◌==◌, nat_lt, if◌then◌else◌, List, [], ◌∷◌, ◌++◌, length, map, Some, None, slice_get, refl, sym, ap, subst, ◌∙◌}
use Rattle.std.proofs.Math.Bool.{and-false}
use Rattle.std.specs.List.{list_all}
use Rattle.std.proofs.lemmas.Bool.{and_from, eq-eqb, or_left, or_right}
use Rattle.ace_codes.specs.declared.kind.ArKind.{ArKind}
use Rattle.ace_codes.specs.Reads.{ar_code, ar_kind_of}
use Rattle.ace_event.specs.declared.event.Channel.TheVariants.{Read}
use Rattle.ace_event.specs.declared.event.Event.{Event}
use Rattle.ace_event.specs.declared.header.Header.{Header}
use Rattle.ace_tables.specs.StartStates.{starts_read}
use Rattle.ace_model.specs.declared.plans.Op.{Op}
use Rattle.ace_model.specs.declared.transactions.Transaction.{Transaction}
use Rattle.ace_model.specs.AddressRules.{is_aligned}
use Rattle.ace_model.specs.Kinds.{is_dvm_complete, is_lite_read, is_no_snoop_read}
use Rattle.ace_model.specs.Plans.{Plan, line_named}
use Rattle.ace_model.specs.Trace.{Trace, implies, is_some_and, more}
use Rattle.ace_model.specs.Transactions.{has_outstanding_on, is_ace, is_outstanding}
use Rattle.ace_model.specs.Writes.{data_writes}
use Rattle.ace_model.proofs.General.Options.{is_none_or-at}
use Rattle.ace_model.proofs.Outstanding.Steps.{outstanding_new_one}
use Rattle.ace_model.proofs.Trace.Outstanding.{read_issued}
use Rattle.ace_runs.specs.Acts.{acts_of, is_act, is_act_read, is_act_transaction, issues_read}
use Rattle.ace_runs.specs.Bursts.{is_kept}
use Rattle.ace_runs.specs.Closing.{and_closing, closing_of}
use Rattle.ace_runs.specs.Follows.{obeys}
use Rattle.ace_runs.specs.Lean.{stays_lean}
use Rattle.ace_runs.specs.Operations.{next_operation}
use Rattle.ace_runs.specs.Requests.{Reads, domain_for, free_on, identifiers, is_free, moves_of, with_identifier}
use Rattle.ace_runs.specs.Retiring.{are_acts_done}
use Rattle.ace_runs.specs.Segments.{acts_made, is_for_operation, segment}
use Rattle.ace_runs.specs.Steps.{is_enabled_by}
use Rattle.ace_runs.proofs.NeverStuck.Operations.Identifiers.{least-low}
use Rattle.ace_runs.proofs.NeverStuck.Operations.Kept.AsksKept.{IsOfClass, ReadFits, or-none, read-kept, read-known}
use Rattle.ace_runs.proofs.NeverStuck.Operations.Lines.Classes.{named-class}
use Rattle.ace_runs.proofs.NeverStuck.Operations.Lines.OfPlan.{IsPlanned, next-planned}
use Rattle.ace_engine.specs.Engines.{IsLegal}
use Rattle.ace_engine.proofs.LegalSteps.{legal-more}
use Rattle.ace_master.specs.Lite.{AreIssued, LiteTells, are_none_or_all, own_steps}
use Rattle.ace_master.specs.Issues.{ar_of}
use Rattle.ace_master.proofs.LiteMoves.{closing-none, goes-step, lite-moves, lite-state, moves-asking}
use Rattle.ace_master.proofs.LiteNext.{IsNext, unasked}
use Rattle.ace_master.proofs.LiteOperations.{IsRead}
use Rattle.ace_master.proofs.Obeying.{ar-obeys, issue-lean, on-named-line}

pub out-undone : (a b c : Bool) → a ≡ true → b ≡ true → (implies a (not b) && c) ≡ false
out-undone a b c x y = rw (x, y) refl

-- the transaction of the AR
abbrev pub read-now : Trace → ℕ → ArKind → ℕ → ℕ → Transaction
read-now past p k a i = read_issued past p i a (ar_code k) (domain_for (is_no_snoop_read k)) 0 false

module _ (plan : Plan) (past : Trace) (p : ℕ) (legal : IsLegal plan past) (operations : List Op) (t : LiteTells plan past p operations None None None)
    (op : Op) (next : next_operation plan past p ≡ Some op) (k : ArKind) (a : ℕ) (r : IsRead op k a) (quiet : has_outstanding_on plan.header past p a ≡ false) where
  abbrev h : Header
  h = plan.header

  planned : IsPlanned plan p op
  planned = next-planned plan past p op legal.right next

  line-quiet : is_some_and (line_named op) (has_outstanding_on h past p) ≡ false
  line-quiet = ap (λ o. is_some_and o (has_outstanding_on h past p)) r.line ∙ quiet

  some-act : (0 == length (acts_of op)) ≡ false
  some-act = ap (λ (fs : List (Event → Bool)). 0 == length fs) r.acts

  fits : ReadFits h past p k a false
  fits = record {
    quiet = quiet;
    line = r.of_line;
    may = or_right (is_ace h p) (is_lite_read k) r.lite;
    aligned = is_none_or-at (line_named op) is_aligned a planned.aligned r.line;
    starts = ap (starts_read k) (lite-state plan past p legal t.lite a) ∙ r.starts;
    locked = refl;
    alike = subst (IsOfClass past a) r.class (named-class plan past p a op legal.right legal.lean planned r.line);
  }

  moves-are : moves_of plan.ways h past p op ≡ map (and_closing h past p op) (with_identifier (free_on h past p Read) (λ i. ar_of p i k a false ∷ []))
  moves-are = moves-asking plan past p legal t.lite op r.plain some-act t.issued.segment_is t.issued.made line-quiet plan.ways (Reads k a false) r.asks

  -- where no identifier is free, no step is enabled
  pub no-read : free_on h past p Read ≡ None → is_enabled_by own_steps plan past p ≡ false
  no-read full =
      unasked plan past p legal operations op t next some-act
      (lite-moves plan past p legal t.lite plan.ways op ∙ moves-are ∙ ap (λ o. map (and_closing h past p op) (with_identifier o (λ i. ar_of p i k a false ∷ []))) full)

  module _ (i : ℕ) (first : free_on h past p Read ≡ Some i) where
    abbrev e : Event
    e = ar_of p i k a false

    abbrev x : Transaction
    x = read-now past p k a i

    kind : ar_kind_of (ar_code k) (domain_for (is_no_snoop_read k)) 0 ≡ Some k
    kind = read-known k r.half

    kept : is_kept h past e ≡ true
    kept = read-kept h past p t.low k i a false fits (least-low identifiers (is_free h past p Read) i first).1

    obeying : obeys plan past e ≡ true
    obeying =
        ar-obeys plan past legal.follows p i a (ar_code k) (domain_for (is_no_snoop_read k)) 0 false op (issues_read k a) next
        (ap (slice_get (acts_of op)) t.issued.made ∙ ap (λ (fs : List (Event → Bool)). slice_get fs 0) r.acts) (and_from _ _ r.at (eq-eqb a a refl))

    lean : stays_lean plan past e ≡ true
    lean =
        issue-lean plan past e x op refl refl next (ap (λ (xs : List Transaction). nat_lt (length xs) 3) t.issued.segment_is)
        (on-named-line plan p a op x planned r.line refl (r.class ∙ sym (ap (λ o. is_some_and o is_no_snoop_read || false) kind ∙ or-none (is_no_snoop_read k))))

    after : IsLegal plan (e ∷ past)
    after = legal-more plan past e legal kept obeying lean

    -- ---- what the port has done then ----

    for-operation : is_for_operation p x ≡ true
    for-operation = and_from _ _ (eq-eqb p p refl) (ap not (ap (λ o. is_some_and o is_dvm_complete) kind ∙ r.completes))

    segment-now : segment (e ∷ past) p ≡ x ∷ []
    segment-now = ap (λ b. more (segment past p) (if b then Some x else None)) for-operation ∙ ap (λ (xs : List Transaction). xs ++ x ∷ []) t.issued.segment_is

    act : is_act_transaction x ≡ true
    act = or_left (is_some_and (ar_kind_of (ar_code k) (domain_for (is_no_snoop_read k)) 0) is_act_read) _ (ap (λ o. is_some_and o is_act_read) kind ∙ r.act)

    made-now : acts_made (e ∷ past) p ≡ 1
    made-now = ap (λ b. if b then acts_made past p + 1 else acts_made past p) (and_from (p == p) (is_act e) (eq-eqb p p refl) act) ∙ ap (λ n. n + 1) t.issued.made

    writes-now : data_writes (e ∷ past) p ≡ data_writes past p
    writes-now = ap (λ b. more (data_writes past p) (if b then Some x else None)) (and-false (p == p))

    -- it isn't done yet
    undone : are_acts_done h (e ∷ past) p ≡ false
    undone =
        ap (list_all (λ x. implies (is_act_transaction x) (not (is_outstanding h (e ∷ past) x)))) segment-now
        ∙ out-undone (is_act_transaction x) (is_outstanding h (e ∷ past) x) true act (outstanding_new_one h past e x refl)

    closing : closing_of h (e ∷ past) p op ≡ []
    closing =
        closing-none h (e ∷ past) p op r.plain
        (ap (λ b. (acts_made (e ∷ past) p == length (acts_of op)) && b) (r.met h (e ∷ past) p ∙ undone) ∙ and-false (acts_made (e ∷ past) p == length (acts_of op)))

    moves-now : moves_of plan.ways h past p op ≡ (e ∷ []) ∷ []
    moves-now =
        moves-are ∙ ap (λ o. map (and_closing h past p op) (with_identifier o (λ i. ar_of p i k a false ∷ []))) first ∙ ap (λ (end : List Event). (e ∷ end) ∷ []) closing

    issued-now : AreIssued plan (e ∷ past) p (x ∷ [])
    issued-now = record {
      segment_is = segment-now;
      made = made-now;
      acts = and_from _ _ act refl;
      whole =
          ap (λ o. are_none_or_all o (x ∷ [])) next
          ∙ and_from _ _ r.awaits (ap (λ (fs : List (Event → Bool)). 1 == length fs) r.acts);
    }

    -- the AR is a step
    pub read-next : IsNext plan past p (e ∷ []) operations (Some x) None None
    read-next = record {
      step = goes-step plan past p legal t.lite op (e ∷ []) next (and_from _ _ (and_from _ _ refl refl) (and_from _ _ kept refl)) moves-now;
      legal = after;
      tells = record {
        low = t.low;
        lite = t.lite;
        operations_are = t.operations_are;
        issued = issued-now;
        sent = t.sent ∙ sym (ap (λ (xs : List Transaction). 4 * length xs) writes-now);
      };
    }
