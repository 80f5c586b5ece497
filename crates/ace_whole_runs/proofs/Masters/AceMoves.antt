-- Each enabled step of the master of an ACE port has a whole burst, after which the master keeps what it is to keep.
use Rattle.std.proofs.Common.{◌≡◌, ◌≤◌, ◌⊎◌, ℕ, zero, Bool, true, false, not, ◌&&◌, ◌||◌, ◌==◌, if◌then◌else◌, List, [], ◌∷◌, ◌++◌, length, map, Contains, Option, Some, None, is_some, refl, sym, ap, subst, ◌∙◌, arith, inl, inr, eqb-true}
use Rattle.std.specs.List.{flat_map, list_all}
use Rattle.std.specs.Option.{option_to_list}
use Rattle.std.proofs.lemmas.Bool.{and_parts, cases_Bool, ne_eqb, or_cases}
use Rattle.ace_codes.specs.declared.kind.ArKind.TheVariants as read
use Rattle.ace_codes.specs.declared.state.LineState.{LineState}
use Rattle.ace_codes.specs.Reads.{ar_code}
use Rattle.ace_codes.specs.Responses.{transfers_data}
use Rattle.ace_event.specs.declared.event.Channel.{Channel}
use Rattle.ace_event.specs.declared.event.Channel.TheVariants.{Read, Write}
use Rattle.ace_event.specs.declared.event.Event.{Event}
use Rattle.ace_event.specs.declared.event.Event.TheVariants.{Ar, Cr}
use Rattle.ace_event.specs.declared.event.Outcome.TheVariants.{Ok}
use Rattle.ace_event.specs.declared.header.Header.{Header}
use Rattle.ace_event.specs.declared.line.Line.{Line}
use Rattle.ace_model.specs.declared.plans.Op.{Op}
use Rattle.ace_model.specs.declared.transactions.Transaction.{Transaction}
use Rattle.ace_model.specs.Copies.{copy_of}
use Rattle.ace_model.specs.Kinds.{is_complete_snoop, is_line_snoop}
use Rattle.ace_model.specs.Plans.{Plan}
use Rattle.ace_model.specs.Trace.{Trace, is_some_and}
use Rattle.ace_model.specs.Transactions.{is_ace}
use Rattle.ace_model.specs.Values.{full_line, stores_data}
use Rattle.ace_model.specs.Writes.{next_write, next_write_beat}
use Rattle.ace_model.proofs.General.Options.{is_some_and-is, some_is}
use Rattle.ace_runs.specs.Closing.{and_closing, closing_of, retirement, state_named}
use Rattle.ace_runs.specs.Follows.{owes_completion}
use Rattle.ace_runs.specs.MasterSteps.{completion_bursts, data_burst, due, end_of, has_due, is_finished, may_acknowledge, may_answer_snoop, may_go_on, may_send}
use Rattle.ace_runs.specs.Operations.{next_operation, operations_of}
use Rattle.ace_runs.specs.Requests.{bursts_of, ends_or_asks, free_on, is_waiting, moves_of, request_of, with_identifier}
use Rattle.ace_runs.specs.Retiring.{may_retire}
use Rattle.ace_runs.specs.Steps.{is_enabled_by}
use Rattle.ace_engine.specs.Engines.{IsLegal}
use Rattle.ace_portck.specs.declared.target.Progress.{Progress}
use Rattle.ace_portck.specs.declared.target.WriteData.{WriteData}
use Rattle.ace_portck.specs.Targets.{progress_of}
use Rattle.ace_master.specs.declared.answering.Asked.{Asked}
use Rattle.ace_master.specs.Acknowledging.{IsDue, operation_of, whole_acknowledge}
use Rattle.ace_master.specs.Answering.{asked_of, can_answer, comes_with}
use Rattle.ace_master.specs.Lite.{own_steps}
use Rattle.ace_master.specs.Operations.{beats_of_data, write_data}
use Rattle.ace_master.specs.Sending.{Carries}
use Rattle.ace_master.proofs.AcePorts.Acknowledges.{ends-somehow, whole-plain, whole-steps}
use Rattle.ace_master.proofs.AcePorts.Asked.{asked-taken}
use Rattle.ace_master.proofs.AcePorts.Asks.{as-asked}
use Rattle.ace_master.proofs.AcePorts.Ends.{closing-plain, ending-steps, is_plain, plain-own, plain-taken}
use Rattle.ace_master.proofs.AcePorts.Turns.{IsTaken, answer-taken, completion-taken, going-own, sent-taken}
use Rattle.ace_master.proofs.AnsweredSnoops.Answers.{answer-chosen, answer-is, may-is}
use Rattle.ace_master.proofs.AskedBursts.AskedEvents.{asks-by}
use Rattle.ace_master.proofs.AskedBursts.AskingSteps.{asked-steps, completion-steps}
use Rattle.ace_master.proofs.WriteData.BeatsSent.{send-all}
use Rattle.ace_master.proofs.WriteData.BurstData.{operation-carries, update-carries}
use Rattle.ace_whole_runs.proofs.Masters.Keeping.{AceKeeps}
use Rattle.ace_whole_runs.proofs.Masters.PickedRows.{row-picked, rows-by-word, rows_of}

-- The port has a step, after which its master keeps that.
pub record AceMove (plan : Plan) (past : Trace) (p : ℕ) : Type 0 where
  pub burst : List Event
  pub unsent : Option WriteData
  pub taken : IsTaken plan past p burst (operations_of plan p) unsent

-- ---- lists of bursts ---------------------------------------------------------------------------------

abbrev some_burst : List (List Event) → Bool
some_burst bursts = not (length bursts == 0)

first-of : (bursts : List (List Event)) → some_burst bursts ≡ true → (burst : List Event) × Contains bursts burst
first-of [] some = cc
first-of (burst ∷ bursts) some = (burst, (zero, omega arith, refl))

some-more : (burst : List Event) (bursts : List (List Event)) → some_burst (burst ∷ bursts) ≡ true
some-more burst bursts = ap not (ne_eqb (length (burst ∷ bursts)) 0 (λ none. absurd (omega (arith, none))))

either-some : (xs ys : List (List Event)) → some_burst (xs ++ ys) ≡ true → (xs ≡ []) ⊎ (some_burst xs ≡ true)
either-some [] ys some = inl refl
either-some (x ∷ xs) ys some = inr (some-more x xs)

-- the bursts of a DVM Complete, where one is owed, under the identifier that is free
abbrev completions : ℕ → Bool → Option ℕ → List (List Event)
completions p b o = if b then with_identifier o (λ i. Ar p i 0 (ar_code read.DvmComplete) 1 0 false ∷ []) else []

-- the DVM Complete that the port owes is one burst
one-completion : (h : Header) (past : Trace) (p : ℕ) → some_burst (completion_bursts h past p) ≡ true
    → (burst : List Event) × (completion_bursts h past p ≡ burst ∷ [])
one-completion h past p some = by (is_ace h p && owes_completion past p) (free_on h past p Read) some
  where
    by : (b : Bool) (o : Option ℕ) → some_burst (completions p b o) ≡ true → (burst : List Event) × (completions p b o ≡ burst ∷ [])
    by true (Some i) some = (_, refl)
    by true None some = cc
    by false o some = cc

-- what comes with an answer is no more than the four beats of a line
few-beats : (past : Trace) (p : ℕ) (a : Asked) (resp : ℕ) → length (comes_with past p a resp) ≤ 4
few-beats past p a resp = by (is_complete_snoop a.kind) (is_line_snoop a.kind && transfers_data resp)
  where
    by : (b c : Bool) → length (if b then retirement past p Ok else if c then data_burst p (copy_of past p a.addr) else []) ≤ 4
    by true c = omega arith
    by false true = omega arith
    by false false = omega arith

module _ (plan : Plan) (past : Trace) (p : ℕ) (ace : is_ace plan.header p ≡ true) (legal : IsLegal plan past) (k : AceKeeps plan past p) where
  abbrev h : Header
  h = plan.header

  abbrev next : Option Op
  next = next_operation plan past p

  -- ---- step 1 ----------------------------------------------------------------------------------------

  answers-move : may_answer_snoop h past p ≡ true → AceMove plan past p
  answers-move may =
      let asked = is_some_and-is (asked_of h past p) can_answer (sym (may-is h past p) ∙ may) in
      let a = asked.0 in
      let rows = rows_of plan.policy in
      let row = row-picked plan.policy a asked.2 in
      let r = row.0 in
      let burst = Cr p r.resp r.next ∷ comes_with past p a r.resp in
      let few = few-beats past p a r.resp in
      record {
        burst = burst;
        unsent = k.unsent;
        taken =
            answer-taken plan past p burst ace legal (operations_of plan p) k.unsent k.tells
            (answer-is plan past p legal.accepted k.tells.answered a asked.1 rows r row.1)
            (answer-chosen plan past p legal.accepted k.tells.answered a asked.1 rows r row.1 (rows-by-word plan.policy)) (omega (arith, few));
      }

  -- ---- step 2 ----------------------------------------------------------------------------------------

  -- what the next write has to carry
  data-there : (x : Transaction) → next_write past p ≡ Some x → (d : WriteData) × Carries plan past x d
  data-there x is = elim (cases_Bool (stores_data x)) [
    | inl stores ↦ let d = k.tells.unsent_is.data_is x is stores in (d.0, operation-carries plan past x d.0 d.2)
    | inr none ↦
        let line : Line = copy_of past p x.addr in
        (record { strobe = full_line; line = line }, update-carries plan past p legal.accepted x is none line refl)
  ]

  sends-move : may_send h past p ≡ true → AceMove plan past p
  sends-move may =
      let parts = and_parts (is_some (next_write past p)) (next_write_beat past p == 0) may in
      let x = some_is (next_write past p) parts.0 in
      let d = data-there x.0 x.1 in
      let burst = beats_of_data p d.0 in
      record {
        burst = burst;
        unsent = k.unsent;
        taken =
            sent-taken plan past p burst ace legal (operations_of plan p) k.unsent k.tells
            (send-all plan past p x.0 d.0 legal x.1 (eqb-true (next_write_beat past p) 0 parts.1) d.1);
      }

  -- ---- step 4 ----------------------------------------------------------------------------------------

  due-move : (c : Channel) → is_some (due h past p c) ≡ true → AceMove plan past p
  due-move c some =
      let x = some_is (due h past p c) some in
      let d : Progress = progress_of h past x.0 in
      let s : IsDue h past p d = record { chan = c; is = x.1; progress = refl } in
      ends x.0 s (end_of h past x.0) refl
    where
      ends : (x : Transaction) → IsDue h past p (progress_of h past x) → (o : Option LineState) → end_of h past x ≡ o → AceMove plan past p
      ends x s None is = absurd (ends-somehow plan past p (progress_of h past x) ace legal k.tells.orderly s is)
      ends x s (Some st) is =
          let d = progress_of h past x in
          let burst = whole_acknowledge h past p x (operation_of plan past p x) st in
          record {
            burst = burst;
            unsent = k.unsent;
            taken =
                plain-own plan past p burst ace legal (operations_of plan p) k.unsent k.tells (whole-plain plan past p d ace legal k.tells.orderly s st is)
                (whole-steps plan past p d ace legal k.tells.orderly s st is);
          }

  acknowledges-move : may_acknowledge next h past p ≡ true → AceMove plan past p
  acknowledges-move may = elim (or_cases (has_due h past p) (is_finished next h past p) may) [
    | inl some ↦ elim (or_cases (is_some (due h past p Read)) (is_some (due h past p Write)) some) [
      | inl reads ↦ due-move Read reads
      | inr writes ↦ due-move Write writes
    ]
    | inr done ↦
        let ends = (and_parts (not (has_due h past p)) (is_some_and next (λ op. may_retire h past p op Ok)) done).1 in
        let bad : false ≡ true = sym k.tells.orderly.unended ∙ ends in cc
  ]

  -- ---- step 14 ---------------------------------------------------------------------------------------

  completes-move : some_burst (completion_bursts h past p) ≡ true → AceMove plan past p
  completes-move some =
      let one = one-completion h past p some in
      let there : Contains (completion_bursts h past p) one.0 = subst (λ bursts. Contains bursts one.0) (sym one.1) (zero, omega arith, refl) in
      record {
        burst = one.0;
        unsent = k.unsent;
        taken =
            completion-taken plan past p one.0 ace legal (operations_of plan p) k.unsent k.tells one.1
            (completion-steps plan past p one.0 there);
      }

  module _ (op : Op) (is : next ≡ Some op) (goes : is_waiting h past p op ≡ false) where
    ends-move : (e : Event) (es : List Event) → closing_of h past p op ≡ e ∷ es → AceMove plan past p
    ends-move e es closed = record {
      burst = e ∷ es;
      unsent = k.unsent;
      taken =
          plain-taken plan past p (e ∷ es) ace legal (operations_of plan p) k.unsent k.tells
          (subst (λ events. list_all is_plain events ≡ true) closed (closing-plain h past p op)) (ending-steps plan past p op legal is goes e es closed);
    }

    asks-move : may_send h past p ≡ false → closing_of h past p op ≡ []
        → some_burst (bursts_of plan.ways h past p (request_of op (state_named h past p op))) ≡ true → AceMove plan past p
    asks-move idle unclosed some =
        let st = state_named h past p op in
        let first = first-of (bursts_of plan.ways h past p (request_of op st)) some in
        let burst = and_closing h past p op first.0 in
        let asked = as-asked plan past p op legal k.tells.orderly is goes unclosed in
        record {
          burst = burst;
          unsent = write_data op;
          taken =
              asked-taken plan past p op first.0 ace legal (operations_of plan p) k.unsent k.tells is idle (asks-by plan.ways h past p op st first.0 first.1)
              (going-own plan past p burst (asked-steps plan past p op legal is goes unclosed asked first.0 first.1));
        }

    operation-move : may_send h past p ≡ false → some_burst (ends_or_asks plan.ways h past p op (closing_of h past p op)) ≡ true → AceMove plan past p
    operation-move idle some = by (closing_of h past p op) refl some
      where
        by : (end : List Event) → closing_of h past p op ≡ end → some_burst (ends_or_asks plan.ways h past p op end) ≡ true → AceMove plan past p
        by [] unclosed some = asks-move idle unclosed (mapped (bursts_of plan.ways h past p (request_of op (state_named h past p op))) some)
          where
            mapped : (bursts : List (List Event)) → some_burst (map (and_closing h past p op) bursts) ≡ true → some_burst bursts ≡ true
            mapped [] some = cc
            mapped (burst ∷ bursts) some = some-more burst bursts
        by (e ∷ es) closed some = ends-move e es closed

  goes-on-move : may_send h past p ≡ false → may_go_on plan.ways next h past p ≡ true → AceMove plan past p
  goes-on-move idle may =
      elim (either-some (completion_bursts h past p) (flat_map (moves_of plan.ways h past p) (option_to_list next)) may) [
        | inr some ↦ completes-move some
        | inl none ↦
            let rest : List (List Event) = flat_map (moves_of plan.ways h past p) (option_to_list next) in
            by next refl (sym (ap (λ (bursts : List (List Event)). some_burst (bursts ++ rest)) none) ∙ may)
      ]
    where
      waits : (op : Op) (b : Bool) → is_waiting h past p op ≡ b → next ≡ Some op
          → some_burst ((if b then [] else ends_or_asks plan.ways h past p op (closing_of h past p op)) ++ []) ≡ true → AceMove plan past p
      waits op true w is some = cc
      waits op false w is some = operation-move op is w idle (alone (ends_or_asks plan.ways h past p op (closing_of h past p op)) some)
        where
          alone : (bursts : List (List Event)) → some_burst (bursts ++ []) ≡ true → some_burst bursts ≡ true
          alone [] some = some
          alone (burst ∷ bursts) some = some-more burst bursts

      by : (o : Option Op) → next ≡ o → some_burst (flat_map (moves_of plan.ways h past p) (option_to_list o)) ≡ true → AceMove plan past p
      by None is some = cc
      by (Some op) is some = waits op (is_waiting h past p op) refl is some

  -- ---- each of them ----------------------------------------------------------------------------------

  pub ace-moves : is_enabled_by own_steps plan past p ≡ true → AceMove plan past p
  ace-moves some =
      let answers = may_answer_snoop h past p in
      let sends = may_send h past p in
      let acknowledges = may_acknowledge next h past p in
      let goes = may_go_on plan.ways next h past p in
      elim (cases_Bool answers) [
        | inl t ↦ answers-move t
        | inr unanswered ↦ elim (cases_Bool sends) [
          | inl t ↦ sends-move t
          | inr idle ↦ elim (cases_Bool acknowledges) [
            | inl t ↦ acknowledges-move t
            | inr none ↦ goes-on-move idle (last-of answers sends acknowledges goes unanswered idle none some)
          ]
        ]
      ]
    where
      last-of : (a b c d : Bool) → a ≡ false → b ≡ false → c ≡ false → (a || (b || (c || (d || false)))) ≡ true → d ≡ true
      last-of a b c true x y z some = refl
      last-of a b c false x y z some = (let bad : false ≡ true = sym (rw (x, y, z) refl) ∙ some in cc)
