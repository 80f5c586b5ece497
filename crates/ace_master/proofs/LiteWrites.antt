-- The AW of an operation that writes is a step, with the OP of a WriteUnique or WriteLineUnique: it breaks no rule, obeys the plan and is lean.
use Rattle.std.proofs.Common.{◌≡◌, ℕ, ◌+◌, Bool, true, false, not, ◌&&◌, ◌==◌, nat_lt, if◌then◌else◌, List, [], ◌∷◌, ◌++◌, length, map, Some, None, slice_get, refl, sym, ap, subst, ◌∙◌, arith}
use Rattle.std.proofs.Math.Bool.{and-false}
use Rattle.std.specs.List.{list_all}
use Rattle.std.specs.Option.{option_map}
use Rattle.std.proofs.lemmas.Bool.{and_from, and_parts, eq-eqb, or_left, or_right}
use Rattle.ace_codes.specs.declared.kind.AwKind.{AwKind}
use Rattle.ace_codes.specs.Writes.{aw_code, aw_kind_of}
use Rattle.ace_event.specs.declared.event.Channel.TheVariants.{Write}
use Rattle.ace_event.specs.declared.event.Event.{Event}
use Rattle.ace_event.specs.declared.event.Event.TheVariants.{Op as Retires}
use Rattle.ace_event.specs.declared.event.Outcome.TheVariants.{Ok}
use Rattle.ace_event.specs.declared.header.Header.{Header}
use Rattle.ace_event.specs.declared.line.Line.{Line}
use Rattle.ace_tables.specs.StartStates.{starts_write}
use Rattle.ace_model.specs.declared.plans.Op.{Op}
use Rattle.ace_model.specs.declared.transactions.Transaction.{Transaction}
use Rattle.ace_model.specs.AddressRules.{gives_up, has_write, is_aligned, keeps_apart}
use Rattle.ace_model.specs.Kinds.{has_write_data, is_granted_write, is_lite_write, is_no_snoop_write, is_unique_write}
use Rattle.ace_model.specs.OrderRules.{retired}
use Rattle.ace_model.specs.Plans.{Plan, line_named}
use Rattle.ace_model.specs.Trace.{Trace, implies, is_some_and, more}
use Rattle.ace_model.specs.Transactions.{has_outstanding_on, is_ace, is_outstanding}
use Rattle.ace_model.specs.Writes.{data_writes}
use Rattle.ace_model.proofs.General.Lists.{slice_get-at_end}
use Rattle.ace_model.proofs.General.Options.{is_none_or-at}
use Rattle.ace_model.proofs.Outstanding.Steps.{outstanding_new_one}
use Rattle.ace_model.proofs.Tables.Kinds.{granted_data}
use Rattle.ace_model.proofs.Trace.Growth.{at_point-before, at_point-end}
use Rattle.ace_model.proofs.Trace.Outstanding.{write_issued}
use Rattle.ace_runs.specs.Acts.{acts_of, is_act, is_act_transaction, is_act_write, issues_write}
use Rattle.ace_runs.specs.Bursts.{is_kept}
use Rattle.ace_runs.specs.Closing.{and_closing, closing_of, retirement}
use Rattle.ace_runs.specs.Follows.{obeys}
use Rattle.ace_runs.specs.Lean.{stays_lean}
use Rattle.ace_runs.specs.Operations.{next_operation, operation_behind}
use Rattle.ace_runs.specs.Requests.{Writes, domain_for, free_on, identifiers, is_free, moves_of, with_identifier}
use Rattle.ace_runs.specs.Retiring.{are_acts_done, may_retire}
use Rattle.ace_runs.specs.Segments.{acts_made, is_for_operation, segment}
use Rattle.ace_runs.specs.Steps.{is_enabled_by}
use Rattle.ace_runs.proofs.NeverStuck.Operations.Identifiers.{least-low}
use Rattle.ace_runs.proofs.NeverStuck.Operations.Kept.AsksKept.{IsOfClass, WriteFits, implies-none, implies-right, write-kept, write-known}
use Rattle.ace_runs.proofs.NeverStuck.Operations.Kept.ClosingKept.{retirement-kept}
use Rattle.ace_runs.proofs.NeverStuck.Operations.Lines.Classes.{named-class}
use Rattle.ace_runs.proofs.NeverStuck.Operations.Lines.OfPlan.{IsPlanned, next-planned}
use Rattle.ace_engine.specs.Engines.{IsLegal}
use Rattle.ace_engine.proofs.LegalSteps.{legal-more}
use Rattle.ace_portck.specs.declared.target.WriteData.{WriteData}
use Rattle.ace_master.specs.Lite.{AreIssued, IsUnsent, LiteTells, are_none_or_all, own_steps}
use Rattle.ace_master.specs.Issues.{aw_of}
use Rattle.ace_master.specs.Operations.{write_data}
use Rattle.ace_master.proofs.LiteHeard.{behind-left}
use Rattle.ace_master.proofs.LiteMoves.{closing-none, closing-ok, goes-step, lite-moves, lite-state, moves-asking}
use Rattle.ace_master.proofs.LiteNext.{IsNext, unasked}
use Rattle.ace_master.proofs.LiteOperations.{IsWrite}
use Rattle.ace_master.proofs.LitePorts.{none-given-up}
use Rattle.ace_master.proofs.LiteReads.{out-undone}
use Rattle.ace_master.proofs.LiteRetires.{retired-issued, retired-legal}
use Rattle.ace_master.proofs.Obeying.{aw-obeys, issue-lean, on-named-line}

-- the transaction of the AW
abbrev pub written-now : Trace → ℕ → AwKind → ℕ → ℕ → Transaction
written-now past p k a i = write_issued past p i a (aw_code k) (domain_for (is_no_snoop_write k)) 0

module _ (plan : Plan) (past : Trace) (p : ℕ) (legal : IsLegal plan past) (operations : List Op) (t : LiteTells plan past p operations None None None)
    (op : Op) (next : next_operation plan past p ≡ Some op) (k : AwKind) (a : ℕ) (w : IsWrite op k a) (quiet : has_outstanding_on plan.header past p a ≡ false) where
  abbrev h : Header
  h = plan.header

  planned : IsPlanned plan p op
  planned = next-planned plan past p op legal.right next

  line-quiet : is_some_and (line_named op) (has_outstanding_on h past p) ≡ false
  line-quiet = ap (λ o. is_some_and o (has_outstanding_on h past p)) w.line ∙ quiet

  some-act : (0 == length (acts_of op)) ≡ false
  some-act = ap (λ (fs : List (Event → Bool)). 0 == length fs) w.acts

  fits : WriteFits h past p k a
  fits = record {
    quiet = quiet;
    line = w.of_line;
    may = or_right (is_ace h p) (is_lite_write k) w.lite;
    aligned = is_none_or-at (line_named op) is_aligned a planned.aligned w.line;
    starts = ap (starts_write k) (lite-state plan past p legal t.lite a) ∙ w.starts;
    alike = subst (IsOfClass past a) w.class (named-class plan past p a op legal.right legal.lean planned w.line);
  }

  apart : keeps_apart h past p k ≡ true
  apart =
      and_from _ _ (implies-none (gives_up k) (not (has_write h past p is_unique_write)) w.apart)
      (implies-right (is_unique_write k) (not (has_write h past p gives_up)) (ap not (none-given-up h past p legal.accepted t.lite)))

  moves-are : moves_of plan.ways h past p op ≡ map (and_closing h past p op) (with_identifier (free_on h past p Write) (λ i. aw_of p i k a ∷ []))
  moves-are =
      moves-asking plan past p legal t.lite op w.plain some-act t.issued.segment_is t.issued.made line-quiet plan.ways (Writes k a) w.asks
      ∙ ap (λ b. map (and_closing h past p op) (if b then with_identifier (free_on h past p Write) (λ i. aw_of p i k a ∷ []) else [])) apart

  -- where no identifier is free, no step is enabled
  pub no-write : free_on h past p Write ≡ None → is_enabled_by own_steps plan past p ≡ false
  no-write full =
      unasked plan past p legal operations op t next some-act
      (lite-moves plan past p legal t.lite plan.ways op ∙ moves-are ∙ ap (λ o. map (and_closing h past p op) (with_identifier o (λ i. aw_of p i k a ∷ []))) full)

  -- the data of the operation
  abbrev pub data_carried : WriteData
  data_carried = record { strobe = w.carries.0.0; line = w.carries.0.1 }

  pub carried-is : write_data op ≡ Some data_carried
  carried-is = ap (option_map (λ (c : ℕ × Line). record { strobe = c.0; line = c.1 })) w.carries.1

  module _ (i : ℕ) (first : free_on h past p Write ≡ Some i) where
    abbrev e : Event
    e = aw_of p i k a

    abbrev x : Transaction
    x = written-now past p k a i

    kind : aw_kind_of (aw_code k) (domain_for (is_no_snoop_write k)) 0 ≡ Some k
    kind = write-known k w.half

    kept : is_kept h past e ≡ true
    kept = write-kept h past p t.low k i a fits apart (least-low identifiers (is_free h past p Write) i first).1

    obeying : obeys plan past e ≡ true
    obeying =
        aw-obeys plan past legal.follows p i a (aw_code k) (domain_for (is_no_snoop_write k)) 0 op (issues_write k a) next
        (ap (slice_get (acts_of op)) t.issued.made ∙ ap (λ (fs : List (Event → Bool)). slice_get fs 0) w.acts) (and_from _ _ w.at (eq-eqb a a refl))

    lean : stays_lean plan past e ≡ true
    lean =
        issue-lean plan past e x op refl refl next (ap (λ (xs : List Transaction). nat_lt (length xs) 3) t.issued.segment_is)
        (on-named-line plan p a op x planned w.line refl (w.class ∙ sym (ap (λ o. is_some_and o is_no_snoop_write) kind)))

    after : IsLegal plan (e ∷ past)
    after = legal-more plan past e legal kept obeying lean

    -- ---- what the port has done then ----

    segment-now : segment (e ∷ past) p ≡ x ∷ []
    segment-now =
        let own : is_for_operation p x ≡ true = and_from _ _ (eq-eqb p p refl) refl in
        ap (λ b. more (segment past p) (if b then Some x else None)) own ∙ ap (λ (xs : List Transaction). xs ++ x ∷ []) t.issued.segment_is

    act : is_act_transaction x ≡ true
    act = ap (λ o. is_some_and o is_act_write) kind ∙ or_left (is_granted_write k) _ w.granted

    made-now : acts_made (e ∷ past) p ≡ 1
    made-now = ap (λ b. if b then acts_made past p + 1 else acts_made past p) (and_from (p == p) (is_act e) (eq-eqb p p refl) act) ∙ ap (λ n. n + 1) t.issued.made

    all-made : (acts_made (e ∷ past) p == length (acts_of op)) ≡ true
    all-made = ap (λ n. n == length (acts_of op)) made-now ∙ ap (λ (fs : List (Event → Bool)). 1 == length fs) w.acts

    writes-now : data_writes (e ∷ past) p ≡ data_writes past p ++ x ∷ []
    writes-now =
        let own = and_from _ _ (eq-eqb p p refl) (ap (λ o. is_some_and o has_write_data) kind ∙ granted_data k w.granted) in
        ap (λ b. more (data_writes past p) (if b then Some x else None)) own

    behind-now : operation_behind plan (e ∷ past) x ≡ Some op
    behind-now = ap (λ (v : Trace). next_operation plan v p) (at_point-before e past (length past) (omega arith) ∙ at_point-end past (length past) refl) ∙ next

    unsent-now : IsUnsent plan (e ∷ past) p data_carried
    unsent-now = record {
      earlier = data_writes past p;
      last = x;
      writes = writes-now;
      sent = t.sent;
      behind = op;
      is_behind = behind-now;
      kind = kind ∙ sym w.kind;
      carries = w.carries.1;
    }

    moves-now : (end : List Event) → closing_of h (e ∷ past) p op ≡ end → moves_of plan.ways h past p op ≡ (e ∷ end) ∷ []
    moves-now end closing =
        moves-are ∙ ap (λ o. map (and_closing h past p op) (with_identifier o (λ i. aw_of p i k a ∷ []))) first ∙ ap (λ (es : List Event). (e ∷ es) ∷ []) closing

    -- ---- a write that the operation waits for ----

    module _ (waits : is_no_snoop_write k ≡ true) where
      undone : are_acts_done h (e ∷ past) p ≡ false
      undone =
          ap (list_all (λ x. implies (is_act_transaction x) (not (is_outstanding h (e ∷ past) x)))) segment-now
          ∙ out-undone (is_act_transaction x) (is_outstanding h (e ∷ past) x) true act (outstanding_new_one h past e x refl)

      closing : closing_of h (e ∷ past) p op ≡ []
      closing =
          closing-none h (e ∷ past) p op w.plain
          (ap (λ b. (acts_made (e ∷ past) p == length (acts_of op)) && b) (w.met h (e ∷ past) p ∙ ap (λ b. if b then are_acts_done h (e ∷ past) p else true) waits ∙ undone)
          ∙ and-false (acts_made (e ∷ past) p == length (acts_of op)))

      issued-now : AreIssued plan (e ∷ past) p (x ∷ [])
      issued-now = record {
        segment_is = segment-now;
        made = made-now;
        acts = and_from _ _ act refl;
        whole = ap (λ o. are_none_or_all o (x ∷ [])) next ∙ and_from _ _ (w.awaits ∙ waits) (ap (λ (fs : List (Event → Bool)). 1 == length fs) w.acts);
      }

      -- the AW is a step
      pub waiting-write : IsNext plan past p (e ∷ []) operations None (Some x) (Some data_carried)
      waiting-write = record {
        step = goes-step plan past p legal t.lite op (e ∷ []) next (and_from _ _ (and_from _ _ refl refl) (and_from _ _ kept refl)) (moves-now [] closing);
        legal = after;
        tells = record { low = t.low; lite = t.lite; operations_are = t.operations_are; issued = issued-now; sent = unsent-now };
      }

    -- ---- one that it doesn't wait for ----

    module _ (goes : is_no_snoop_write k ≡ false) where
      may : may_retire h (e ∷ past) p op Ok ≡ true
      may = and_from _ _ all-made (w.met h (e ∷ past) p ∙ ap (λ b. if b then are_acts_done h (e ∷ past) p else true) goes)

      abbrev last : Event
      last = Retires p (retired past p) Ok

      unsent-then : IsUnsent plan (last ∷ e ∷ past) p data_carried
      unsent-then =
          let there : slice_get (data_writes (e ∷ past) p) (length (data_writes past p)) ≡ Some x =
          ap (λ (xs : List Transaction). slice_get xs (length (data_writes past p))) writes-now ∙ slice_get-at_end (data_writes past p) (length (data_writes past p)) x refl in
          record {
            earlier = data_writes past p;
            last = x;
            writes = writes-now;
            sent = t.sent;
            behind = op;
            is_behind = behind-left plan (e ∷ past) p (length (data_writes past p)) x last there ∙ behind-now;
            kind = kind ∙ sym w.kind;
            carries = w.carries.1;
          }

      -- the AW with its OP is a step
      pub going-write : IsNext plan past p (e ∷ last ∷ []) operations None None (Some data_carried)
      going-write =
          let ends = (and_parts (is_kept h (e ∷ past) last) true (retirement-kept h (e ∷ past) p Ok t.low)).0 in
          record {
            step =
                goes-step plan past p legal t.lite op (e ∷ last ∷ []) next (and_from _ _ (and_from _ _ refl refl) (and_from _ _ kept (and_from _ _ ends refl)))
                (moves-now (retirement past p Ok) (closing-ok h (e ∷ past) p op may));
            legal = retired-legal plan (e ∷ past) p after t.low op next may;
            tells = record {
              low = t.low;
              lite = t.lite;
              operations_are = t.operations_are;
              issued = retired-issued plan (e ∷ past) p after t.low op next may;
              sent = unsent-then;
            };
          }
