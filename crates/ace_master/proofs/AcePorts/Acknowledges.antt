-- Acknowledging: what a port puts is the burst of step 4, and what its master keeps then.
use Rattle.std.proofs.Common.{◌≡◌, ◌≤◌, ℕ, zero, suc, Bool, true, false, not, ◌&&◌, ◌||◌, ◌==◌, if◌then◌else◌, List, [], ◌∷◌, ◌++◌, length, filter, slice_get, Option, Some, None, unwrap_or, refl, sym, ap, subst, ◌∙◌, arith, append-nil}
use Rattle.std.proofs.Math.Bool.{and-false}
use Rattle.std.specs.List.{list_all, list_any}
use Rattle.std.specs.Option.{option_map, option_to_list}
use Rattle.std.proofs.lemmas.List.Folds.{list_all-append}
use Rattle.std.proofs.lemmas.Bool.{and_from, and_parts, eq-eqb, false_from_ne_true, or_left, or_right}
use Rattle.ace_codes.specs.declared.kind.ArKind.TheVariants as read
use Rattle.ace_codes.specs.declared.state.LineState.{LineState}
use Rattle.ace_event.specs.declared.event.Channel.{Channel}
use Rattle.ace_event.specs.declared.event.Channel.TheVariants.{Read, Write}
use Rattle.ace_event.specs.declared.event.Event.{Event}
use Rattle.ace_event.specs.declared.header.Header.{Header}
use Rattle.ace_event.specs.declared.line.Line.{Line}
use Rattle.ace_model.specs.declared.plans.Op.{Op}
use Rattle.ace_model.specs.declared.plans.Op.TheVariants as op
use Rattle.ace_model.specs.declared.transactions.Transaction.{Transaction}
use Rattle.ace_model.specs.Exclusives.{has_failed, passed_at_grant}
use Rattle.ace_model.specs.Kinds.{is_clean_unique, is_make_unique}
use Rattle.ace_model.specs.Plans.{Plan}
use Rattle.ace_model.specs.States.{has_store}
use Rattle.ace_model.specs.Trace.{Trace, is_some_and}
use Rattle.ace_model.specs.Transactions.{is_ace, is_exclusive_store, outstanding, read_kind, transaction_of}
use Rattle.ace_model.proofs.General.Options.{Some-injective, is_some_and-is}
use Rattle.ace_model.proofs.Trace.Issued.{outstanding-named}
use Rattle.ace_model.proofs.Trace.Looks.{is_read-is}
use Rattle.ace_runs.specs.Bursts.{onto}
use Rattle.ace_runs.specs.Closing.{access_of}
use Rattle.ace_runs.specs.MasterSteps.{acknowledge, acknowledge_for, acknowledge_in, acknowledge_of, acknowledges, end_of, may_acknowledge, may_answer_snoop, answers_snoop, may_send, sends, store_lacked}
use Rattle.ace_runs.specs.Operations.{next_operation}
use Rattle.ace_runs.specs.Retiring.{has_failed_store, was_refused}
use Rattle.ace_runs.specs.Segments.{is_in_segment, segment}
use Rattle.ace_runs.specs.Steps.{is_sound, is_step_by}
use Rattle.ace_runs.proofs.NeverStuck.Operations.Lines.OfPlan.{next-planned}
use Rattle.ace_runs.proofs.NeverStuck.Steps.Concluding.{acknowledges-all}
use Rattle.ace_runs.proofs.NeverStuck.Steps.SameEvents.{TellsSame, tells-same}
use Rattle.ace_model.proofs.General.Lists.{list_all-at}
use Rattle.ace_engine.specs.Engines.{IsLegal}
use Rattle.ace_portck.specs.declared.target.Progress.{Progress}
use Rattle.ace_master_laws.specs.Orderly.{IsFor, IsOrderly, acts, brings, gives, is_write_back, owns, owns_line, read_wanted, takes_line, brings_line}
use Rattle.ace_master_laws.proofs.Acknowledges.Due.{ack, ack-is, ack-segment, of-segment}
use Rattle.ace_master_laws.proofs.Acknowledges.StepFour.{made-for, make-kind}
use Rattle.ace_master_laws.proofs.AcknowledgeSteps.AcknowledgeLaw.{acknowledge-steps}
use Rattle.ace_master_laws.proofs.Progress.Come.{brought-for}
use Rattle.ace_master_laws.proofs.Progress.Endings.{access-no-acts, is_no_act}
use Rattle.ace_master_state.specs.Retiring.{IsToldOf}
use Rattle.ace_master.specs.Acknowledging.{IsDue, IsMadeFor, IsTold, closing_for, lacked_and_acknowledge, operation_of, whole_acknowledge}
use Rattle.ace_master.specs.Lite.{own_steps}
use Rattle.ace_master.proofs.AcePorts.Due.{due-port, due-so, exclusive-read}
use Rattle.ace_master.proofs.AcePorts.Ends.{is_plain, plain-ends}
use Rattle.ace_master.proofs.AcePorts.Refusals.{refused-is}

-- ---- the step ----------------------------------------------------------------------------------------

-- a step of number 4 is one of a master, and acknowledges
own-four : (plan : Plan) (past : Trace) (p : ℕ) (burst : List Event) → is_step_by (4 ∷ []) plan past p burst ≡ true
    → (is_step_by own_steps plan past p burst ≡ true) × (acknowledges (next_operation plan past p) plan.header past p burst ≡ true)
own-four plan past p burst s =
    let h = plan.header in
    let next = next_operation plan past p in
    let gives : Bool = may_acknowledge next h past p && acknowledges next h past p burst in
    let parts = and_parts (is_sound h past burst) (gives || false) s in
    let given : gives ≡ true = without-false gives parts.1 in (
      and_from _ _ parts.0
          (or_right (may_answer_snoop h past p && answers_snoop h past p burst) _ (or_right (may_send h past p && sends h past p burst) _ (or_left gives _ given))),
      (and_parts (may_acknowledge next h past p) (acknowledges next h past p burst) given).1,
    )
  where
    without-false : (b : Bool) → (b || false) ≡ true → b ≡ true
    without-false true t = refl
    without-false false t = cc

-- a step has an event
step-some : (plan : Plan) (past : Trace) (p : ℕ) (burst : List Event) → is_step_by (4 ∷ []) plan past p burst ≡ true → burst ≡ [] → ⊥
step-some plan past p [] s none = cc
step-some plan past p (e ∷ burst) s none = cc

same-plain : TellsSame is_plain
same-plain = tells-same is_plain (λ p c i line. refl) (λ p a s x line. refl) (λ a line. refl)

-- ---- operations --------------------------------------------------------------------------------------

-- where every one of a list is a CleanUnique, and it has at most one, it has none but this
only-owner : (xs : List Transaction) (k : ℕ) (x : Transaction) → ((n : ℕ) (y : Transaction) → slice_get xs n ≡ Some y → owns_line y ≡ true) → length (filter owns_line xs) ≤ 1
    → slice_get xs k ≡ Some x → xs ≡ x ∷ []
only-owner [] k x each few there = cc
only-owner (y ∷ []) zero x each few there = ap (λ o. option_to_list o) there
only-owner (y ∷ []) (suc k) x each few there = cc
only-owner (y ∷ z ∷ xs) k x each few there =
    let first = each 0 y refl in
    let second = each 1 z refl in
    let many : suc (suc (length (filter owns_line xs))) ≤ 1 = rw (first, second) at few in
    absurd (omega (arith, many))

module _ (plan : Plan) (past : Trace) (p : ℕ) (d : Progress) (ace : is_ace plan.header p ≡ true) (legal : IsLegal plan past) (o : IsOrderly plan past p) (s : IsDue plan.header past p d) where
  abbrev h : Header
  h = plan.header

  abbrev x : Transaction
  x = d.transaction

  abbrev next : Option Op
  next = operation_of plan past p x

  port : x.port ≡ p
  port = due-port h past p d legal.accepted ace s

  abbrev burst : List Event
  burst = acknowledge_of (next_operation plan past p) h past x

  step : is_step_by (4 ∷ []) plan past p burst ≡ true
  step = acknowledge-steps plan past p s.chan x ace legal o s.is

  own : (is_step_by own_steps plan past p burst ≡ true) × (acknowledges (next_operation plan past p) h past p burst ≡ true)
  own = own-four plan past p burst step

  -- there is a state in which it ends
  pub ends-somehow : end_of h past x ≡ None → ⊥
  ends-somehow none = step-some plan past p burst step (ap (λ v. unwrap_or (option_map (acknowledge_in (next_operation plan past p) h past x) v) []) none)

  -- the burst of step 4
  pub burst-is : (st : LineState) → end_of h past x ≡ Some st → burst ≡ whole_acknowledge h past p x next st
  burst-is st end =
      ends ∙ by (is_in_segment past x) (next_operation plan past p) (λ none. step-some plan past p burst step (ends ∙ none))
    where
      ends : burst ≡ acknowledge_in (next_operation plan past p) h past x st
      ends = ap (λ v. unwrap_or (option_map (acknowledge_in (next_operation plan past p) h past x) v) []) end

      by : (b : Bool) (n : Option Op) → ((if b then acknowledge_for h past x n st else acknowledge x st) ≡ [] → ⊥)
          → (if b then acknowledge_for h past x n st else acknowledge x st) ≡ whole_acknowledge h past p x (if b then n else None) st
      by false n some = sym (append-nil (acknowledge x st))
      by true None some = absurd (some refl)
      by true (Some v) some = ap (λ q. (store_lacked h past x v ++ acknowledge x st) ++ closing_for h (onto (store_lacked h past x v ++ acknowledge x st) past) q (Some v)) port

  -- it is a step of a master
  pub whole-steps : (st : LineState) → end_of h past x ≡ Some st → is_step_by own_steps plan past p (whole_acknowledge h past p x next st) ≡ true
  whole-steps st end = subst (λ b. is_step_by own_steps plan past p b ≡ true) (burst-is st end) own.0

  pub whole-plain : (st : LineState) → end_of h past x ≡ Some st → list_all is_plain (whole_acknowledge h past p x next st) ≡ true
  whole-plain st end =
      subst (λ b. list_all is_plain b ≡ true) (burst-is st end)
      (acknowledges-all p is_plain (plain-ends p) same-plain (next_operation plan past p) h past burst own.1)

  -- so is the part of it before what ends the operation
  pub first-plain : (st : LineState) → end_of h past x ≡ Some st → list_all is_plain (lacked_and_acknowledge h past x next st) ≡ true
  first-plain st end =
      let first = lacked_and_acknowledge h past x next st in
      let rest = closing_for h (onto first past) p next in
      (and_parts (list_all is_plain first) (list_all is_plain rest) (sym (list_all-append is_plain first rest) ∙ whole-plain st end)).0

  -- ---- what it was issued for ------------------------------------------------------------------------

  -- where it is for an operation, that is the next one, and it stands in the segment
  for-next : (v : Op) → next ≡ Some v → (next_operation plan past p ≡ Some v) × ((k : ℕ) × (slice_get (segment past p) k ≡ Some x))
  for-next v is = by (is_in_segment past x) refl is
    where
      by : (b : Bool) → is_in_segment past x ≡ b → (if b then next_operation plan past p else None) ≡ Some v
          → (next_operation plan past p ≡ Some v) × ((k : ℕ) × (slice_get (segment past p) k ≡ Some x))
      by true inside e = (e, of-segment past p x port (due-so h past p d legal.accepted ace s).there inside)
      by false inside e = cc

  pub made-for-next : IsMadeFor x next
  made-for-next = by next refl
    where
      by : (n : Option Op) → next ≡ n → IsMadeFor x n
      by None is = tt
      by (Some v) is = λ makes.
          let m = is_some_and-is (read_kind x) is_make_unique makes in
          let kind : read_kind x ≡ Some read.MakeUnique = m.1 ∙ ap Some (make-kind m.0 m.2) in
          let brings_x : brings_line x ≡ true = ap (λ k. is_some_and k takes_line) kind in
          let for = for-next v is in
          let wants = brought-for v x ((o.under_way v for.0).asked for.1.0 x for.1.1) brings_x in
          let same : wants.kind ≡ read.MakeUnique = Some-injective wants.kind read.MakeUnique (sym wants.is_kind ∙ kind) in
          let fill = made-for v wants.line (subst (λ k. read_wanted v ≡ Some (k, wants.line)) same wants.wanted) (next-planned plan past p v legal.right for.0).fields in
          (wants.line, fill.0, fill.1)

  -- ---- an exclusive store ----------------------------------------------------------------------------

  module _ (a w word : ℕ) (is : next_operation plan past p ≡ Some (op.Stx a w word)) where
    -- every transaction of its operation is one
    store-for : (n : ℕ) (y : Transaction) → slice_get (segment past p) n ≡ Some y → (is_exclusive_store y ≡ true) × (y.addr ≡ a)
    store-for n y there = by ((o.under_way (op.Stx a w word) is).asked n y there)
      where
        by : IsFor (op.Stx a w word) y → (is_exclusive_store y ≡ true) × (y.addr ≡ a)
        by (acts act) =
            let none = list_all-at is_no_act (segment past p) n y (access-no-acts plan past p (op.Stx a w word) legal.follows is refl) there in
            let bad : false ≡ true = ap not (sym act) ∙ none in cc
        by (brings k l wanted kind of) = cc
        by (owns l lock wanted kind addr locked) =
            let line : a ≡ l = ap (λ v. unwrap_or (option_map (λ (q : ℕ × Bool). q.0) v) 0) wanted in
            let one : true ≡ lock = ap (λ v. unwrap_or (option_map (λ (q : ℕ × Bool). q.1) v) false) wanted in
            (and_from _ _ (locked ∙ sym one) (ap (λ v. is_some_and v is_clean_unique) kind), addr ∙ sym line)
        by (gives k kind t) = let bad : false ≡ true = sym (and-false (is_write_back k)) ∙ t in cc

    store-owns : (y : Transaction) → is_exclusive_store y ≡ true → owns_line y ≡ true
    store-owns y t = (and_parts y.lock (is_some_and (read_kind y) is_clean_unique) t).1

    -- whether the interconnect refused one is whether this one failed
    module _ (k : ℕ) (there : slice_get (segment past p) k ≡ Some x) (st : LineState) where
      this : (is_exclusive_store x ≡ true) × (x.addr ≡ a)
      this = store-for k x there

      segment-is : segment past p ≡ x ∷ []
      segment-is = only-owner (segment past p) k x (λ n y at. store-owns y (store-for n y at).0) (o.under_way (op.Stx a w word) is).one_owner there

      refused-now : was_refused (ack s.chan p st ∷ past) x ≡ was_refused past x
      refused-now = by s.chan
        where
          by : (c : Channel) → was_refused (ack c p st ∷ past) x ≡ was_refused past x
          by Read = refl
          by Write = refl

      pub store-told : has_failed past x ≡ has_failed_store (ack s.chan p st ∷ past) p a
      store-told =
          let so = due-so h past p d legal.accepted ace s in
          let chan : s.chan ≡ Read = exclusive-chan in
          let named : transaction_of past p Read x.id ≡ Some x = outstanding-named h past p Read x.id x (ap (λ c. outstanding h past p c x.id) (sym chan) ∙ so.waits) in
          let refused : was_refused past x ≡ is_some_and (passed_at_grant past p x.id) not = refused-is p x.id x this.0 h past legal.accepted named in
          let fails : has_failed past x ≡ is_some_and (passed_at_grant past p x.id) not =
          ap (λ b. b && is_some_and (passed_at_grant past x.port x.id) not) this.0 ∙ ap (λ q. is_some_and (passed_at_grant past q x.id) not) port in
          let test : Transaction → Bool = λ y. is_exclusive_store y && (y.addr == a) && was_refused (ack s.chan p st ∷ past) y in
          let whole : has_failed_store (ack s.chan p st ∷ past) p a ≡ (test x || false) =
          ap (list_any test) (ack-segment past s.chan p p st ∙ segment-is) in
          let one : test x ≡ was_refused past x =
          ap (λ b. (b && (x.addr == a)) && was_refused (ack s.chan p st ∷ past) x) this.0 ∙ ap (λ b. b && was_refused (ack s.chan p st ∷ past) x) (eq-eqb x.addr a this.1) ∙ refused-now in
          fails ∙ sym refused ∙ sym one ∙ sym (or-false (test x)) ∙ sym whole
        where
          or-false : (b : Bool) → (b || false) ≡ b
          or-false true = refl
          or-false false = refl

          exclusive-chan : s.chan ≡ Read
          exclusive-chan = sym (due-so h past p d legal.accepted ace s).chan ∙ is_read-is x.chan (exclusive-read x this.0)

  -- ---- what the port is told -------------------------------------------------------------------------

  pub told : (st : LineState) → IsTold (onto (lacked_and_acknowledge h past x next st) past) p next (has_failed past x)
  told st = by next refl made-for-next
    where
      not-fill : (a w word : ℕ) → (b : ℕ) × (line : Line) × (op.Stx a w word ≡ op.Fill b line) → ⊥
      not-fill a w word fill = let bad = fill.2 in cc

      of : (v : Op) → next ≡ Some v → IsMadeFor x (Some v) → IsToldOf (onto (store_lacked h past x v ++ acknowledge x st) past) p v (has_failed past x)
      of (op.Stx a w word) is made =
          let for = for-next (op.Stx a w word) is in
          let none : is_some_and (read_kind x) is_make_unique ≡ false =
          false_from_ne_true (is_some_and (read_kind x) is_make_unique) (λ t. not-fill a w word (made t)) in
          let lacks : store_lacked h past x (op.Stx a w word) ≡ [] =
          ap (λ b. if b && not (has_store h past x.port x.id) then option_to_list (access_of past x.port (op.Stx a w word)) else []) none in
          let burst : store_lacked h past x (op.Stx a w word) ++ acknowledge x st ≡ ack s.chan p st ∷ [] =
          ap (λ (es : List Event). es ++ acknowledge x st) lacks ∙ ack-is x p s.chan st port (due-so h past p d legal.accepted ace s).chan in
          store-told a w word for.0 for.1.0 for.1.1 st ∙ ap (λ es. has_failed_store (onto es past) p a) (sym burst)
      of v is made = tt

      by : (n : Option Op) → next ≡ n → IsMadeFor x n → IsTold (onto (lacked_and_acknowledge h past x n st) past) p n (has_failed past x)
      by None is made = tt
      by (Some v) is made = ((next-planned plan past p v legal.right (for-next v is).0).fields, of v is made)
