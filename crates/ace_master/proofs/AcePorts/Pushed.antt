-- The master of an ACE port that has one more operation: its next one stays, or it is that one, for which the port has done nothing yet.
use Rattle.std.proofs.Common.{◌≡◌, ◌<◌, ℕ, ◌+◌, Bool, true, false, not, ◌&&◌, ◌==◌, nat_lt, if◌then◌else◌, List, [], ◌∷◌, ◌++◌, length, map, filter, slice_get, Option, Some, None, is_some, inl, inr, refl, sym, ap, ◌∙◌, arith}
use Rattle.std.proofs.Math.Bool.{and-false}
use Rattle.std.proofs.lemmas.Bool.{and_parts, cases_Bool, eq-eqb, eqb-true, false_from_ne_true}
use Rattle.std.proofs.lemmas.List.{length-append}
use Rattle.ace_event.specs.declared.event.Event.{Event}
use Rattle.ace_event.specs.declared.event.Event.TheVariants.{S, Op as Retires}
use Rattle.ace_event.specs.declared.event.Outcome.TheVariants.{Ok}
use Rattle.ace_model.specs.declared.plans.Op.{Op}
use Rattle.ace_model.specs.declared.plans.PlanOp.{PlanOp}
use Rattle.ace_model.specs.declared.transactions.Transaction.{Transaction}
use Rattle.ace_model.specs.Messages.{is_dvm_completion}
use Rattle.ace_model.specs.OrderRules.{retired}
use Rattle.ace_model.specs.Plans.{IsRight, Plan, longer}
use Rattle.ace_model.specs.Progress.{updates_memory}
use Rattle.ace_model.specs.Trace.{Trace, implies, is_none_or, is_some_and, more, option_filter, port_of}
use Rattle.ace_model.specs.Transactions.{issued}
use Rattle.ace_model.proofs.General.Options.{is_some_and-is}
use Rattle.ace_runs.specs.Acts.{acts_of, is_act}
use Rattle.ace_runs.specs.Follows.{FollowsSoFar, acts_well, answers_well, carries_data, has_room_after, is_next_act, obeys, retires_well}
use Rattle.ace_runs.specs.Lean.{IsLean, is_on_named_line, is_one_of_three, is_one_of_two}
use Rattle.ace_runs.specs.Operations.{next_operation, operations_of}
use Rattle.ace_runs.specs.Retiring.{may_retire}
use Rattle.ace_runs.specs.Segments.{acts_made, is_at_port, is_for_operation, segment, silent_moves}
use Rattle.ace_runs.proofs.LongerPlans.{next-longer, operations-longer}
use Rattle.ace_runs.proofs.NeverStuck.Phases.Endings.{fresh-stays}
use Rattle.ace_engine.specs.Engines.{IsLegal}
use Rattle.ace_master_laws.specs.Orderly.{IsOrderly, IsUnderWay, owns_line}
use Rattle.ace_master.specs.AceLaws.{under-way-longer}
use Rattle.ace_master.proofs.Retirements.{few-own}

-- ---- a port without a next operation -----------------------------------------------------------------

-- The port has done nothing for its next operation.
pub record IsIdle (past : Trace) (p : ℕ) : Type 0 where
  pub none_issued : segment past p ≡ []
  pub none_made : acts_made past p ≡ 0
  pub none_silent : silent_moves past p ≡ 0

-- what may hold of the next operation of a port, if it has none
no-next : (plan : Plan) (past : Trace) (p q : ℕ) (f : Op → Bool) → next_operation plan past p ≡ None → (q == p) ≡ true → is_some_and (next_operation plan past q) f ≡ false
no-next plan past p q f none same =
    ap (λ (r : ℕ). is_some_and (next_operation plan past r) f) (eqb-true q p same) ∙ ap (λ (o : Option Op). is_some_and o f) none

none-lacks : (plan : Plan) (past : Trace) (p q : ℕ) → next_operation plan past p ≡ None → (q == p) ≡ true → is_some (next_operation plan past q) ≡ false
none-lacks plan past p q none same = ap (λ (r : ℕ). is_some (next_operation plan past r)) (eqb-true q p same) ∙ ap is_some none

-- so it issues nothing for one
none-new : (plan : Plan) (past : Trace) (p : ℕ) (o : Option Transaction) → next_operation plan past p ≡ None
    → is_none_or o (λ x. is_one_of_three plan past x && is_on_named_line plan x) ≡ true → option_filter (is_for_operation p) o ≡ None
none-new plan past p None none lean = refl
none-new plan past p (Some x) none lean = by (is_for_operation p x) refl
  where
    three : is_one_of_three plan past x ≡ true
    three = (and_parts (is_one_of_three plan past x) (is_on_named_line plan x) lean).0

    wants : (a b c : Bool) → a ≡ true → b ≡ false → implies a (b && c) ≡ true → ⊥
    wants true true c s f i = cc
    wants false b c s f i = cc
    wants true false c s f i = cc

    by : (b : Bool) → is_for_operation p x ≡ b → (if b then Some x else None) ≡ None
    by false is = refl
    by true is =
        let parts = and_parts (x.port == p) (not (is_dvm_completion x)) is in
        absurd (wants (not (is_dvm_completion x)) (is_some (next_operation plan past x.port)) (nat_lt (length (segment past x.port)) 3) parts.1 (none-lacks plan past p x.port none parts.0) three)

-- and makes no act
none-act : (plan : Plan) (past : Trace) (p : ℕ) (e : Event) → next_operation plan past p ≡ None → acts_well plan past e ≡ true → (is_at_port p e && is_act e) ≡ false
none-act plan past p e none well =
    false_from_ne_true (is_at_port p e && is_act e) (λ t.
    let parts = and_parts (is_at_port p e) (is_act e) t in
    let at = is_some_and-is (port_of e) (λ q. q == p) parts.0 in
    let acts : is_some_and (port_of e) (is_next_act plan past e) ≡ true = holds (is_act e) (is_some_and (port_of e) (is_next_act plan past e)) parts.1 well in
    let some : is_next_act plan past e at.0 ≡ true = sym (ap (λ (o : Option ℕ). is_some_and o (is_next_act plan past e)) at.1) ∙ acts in
    let lacks = no-next plan past p at.0 (λ op. is_some_and (slice_get (acts_of op) (acts_made past at.0)) (λ fits. fits e)) none at.2 in
    let bad : false ≡ true = sym lacks ∙ some in cc)
  where
    holds : (a b : Bool) → a ≡ true → implies a b ≡ true → b ≡ true
    holds true b t i = i
    holds false b t i = cc

well-of : (plan : Plan) (past : Trace) (e : Event) → obeys plan past e ≡ true → acts_well plan past e ≡ true
well-of plan past e o =
    let p1 = and_parts (retires_well plan past e && acts_well plan past e && carries_data plan past e && answers_well plan past e) (has_room_after plan past e) o in
    let p2 = and_parts (retires_well plan past e && acts_well plan past e && carries_data plan past e) (answers_well plan past e) p1.0 in
    let p3 = and_parts (retires_well plan past e && acts_well plan past e) (carries_data plan past e) p2.0 in
    (and_parts (retires_well plan past e) (acts_well plan past e) p3.0).1

pub idle : (plan : Plan) (past : Trace) (p : ℕ) → FollowsSoFar plan past → IsLean plan past → next_operation plan past p ≡ None → IsIdle past p
idle plan [] p f l none = record { none_issued = refl; none_made = refl; none_silent = refl }
idle plan (Retires q k res ∷ past) p f l none =
    elim (cases_Bool (p == q)) [
      | inl own ↦ record {
        none_issued = ap (λ b. if b then [] else segment past p) own;
        none_made = ap (λ b. if b then 0 else acts_made past p) own;
        none_silent = ap (λ b. if b then 0 else silent_moves past p) own;
      }
      | inr other ↦
          let before : next_operation plan past p ≡ None = sym (ap (λ b. slice_get (operations_of plan p) (if b then retired past p + 1 else retired past p)) other) ∙ none in
          let i = idle plan past p f.0 l.0 before in
          record {
            none_issued = ap (λ b. if b then [] else segment past p) other ∙ i.none_issued;
            none_made = ap (λ b. if b then 0 else acts_made past p) other ∙ i.none_made;
            none_silent = ap (λ b. if b then 0 else silent_moves past p) other ∙ i.none_silent;
          }
    ]
idle plan (S q addr st ∷ past) p f l none =
    let i = idle plan past p f.0 l.0 none in
    let still : (p == q) ≡ false =
    false_from_ne_true (p == q) (λ t.
    let two = (and_parts true (is_one_of_two plan past (S q addr st)) l.1).1 in
    let some = (and_parts (is_some (next_operation plan past q)) (nat_lt (silent_moves past q) 2) two).0 in
    let bad : true ≡ false = sym some ∙ ap (λ (r : ℕ). is_some (next_operation plan past r)) (sym (eqb-true p q t)) ∙ ap is_some none in cc) in
    record {
      none_issued = i.none_issued;
      none_made = ap (λ b. if b then acts_made past p + 1 else acts_made past p) (and-false (q == p)) ∙ i.none_made;
      none_silent = ap (λ b. if b then silent_moves past p + 1 else silent_moves past p) still ∙ i.none_silent;
    }
idle plan (e ∷ past) p f l none =
    let i = idle plan past p f.0 l.0 none in
    let lean = (and_parts (is_none_or (issued (length past) e) (λ x. is_one_of_three plan past x && is_on_named_line plan x)) (is_one_of_two plan past e) l.1).0 in
    record {
      none_issued = ap (more (segment past p)) (none-new plan past p (issued (length past) e) none lean) ∙ i.none_issued;
      none_made = ap (λ b. if b then acts_made past p + 1 else acts_made past p) (none-act plan past p e none (well-of plan past e f.1)) ∙ i.none_made;
      none_silent = i.none_silent;
    }

-- ---- one more operation ------------------------------------------------------------------------------

module _ (plan : Plan) (o : PlanOp) (past : Trace) (p : ℕ) (legal : IsLegal plan past) (c : IsOrderly plan past p) where
  abbrev now : Option Op
  now = next_operation (longer plan o) past p

  begun : IsIdle past p → (op : Op) → IsUnderWay (longer plan o) past p op
  begun i op =
      let nothing : (k : ℕ) (x : Transaction) → slice_get (segment past p) k ≡ Some x → ⊥ =
      λ k x there. let bad : None ≡ Some x = sym (ap (λ (xs : List Transaction). slice_get xs k) i.none_issued) ∙ there in cc in
      record {
        asked = λ k x there. absurd (nothing k x there);
        settled = λ k x there out. absurd (nothing k x there);
        silent = inl i.none_silent;
        one_update = let none = ap (λ (xs : List Transaction). length (filter updates_memory xs)) i.none_issued in omega (arith, none);
        one_owner = let none = ap (λ (xs : List Transaction). length (filter owns_line xs)) i.none_issued in omega (arith, none);
        room = λ k x there out takes. absurd (nothing k x there);
        apart = λ j k x y at_x at_y b u out. absurd (nothing j x at_x);
        absent = λ k x there out u l used. absurd (nothing k x there);
      }

  unended-then : IsIdle past p → (n : Option Op) → is_some_and n (λ op. may_retire plan.header past p op Ok) ≡ false
  unended-then i None = refl
  unended-then i (Some op) = fresh-stays plan.header past p op i.none_made i.none_issued

  -- the port keeps what it is to keep
  pub pushed-orderly : IsOrderly (longer plan o) past p
  pushed-orderly = by (next_operation plan past p) refl
    where
      by : (n : Option Op) → next_operation plan past p ≡ n → IsOrderly (longer plan o) past p
      by None none =
          let i = idle plan past p legal.follows legal.lean none in
          record {
            unended = unended-then i now;
            brought = λ j x out brings. let b = c.brought j x out brings in (b.0, b.1, next-longer plan (o ∷ []) past p b.0 b.2, b.3);
            under_way = λ op next. begun i op;
          }
      by (Some v) some =
          let same = next-longer plan (o ∷ []) past p v some in
          record {
            unended = ap (λ (n : Option Op). is_some_and n (λ op. may_retire plan.header past p op Ok)) (same ∙ sym some) ∙ c.unended;
            brought = λ j x out brings. let b = c.brought j x out brings in (b.0, b.1, next-longer plan (o ∷ []) past p b.0 b.2, b.3);
            under_way = λ op next. under-way-longer plan o past p op (c.under_way op (some ∙ sym same ∙ next));
          }

-- its operations and the new one
pub pushed-operations : (plan : Plan) (p : ℕ) (op : Op) → operations_of (longer plan (record { port = p; op = op })) p ≡ operations_of plan p ++ op ∷ []
pushed-operations plan p op =
    let o : PlanOp = record { port = p; op = op } in
    operations-longer plan (o ∷ []) p ∙ ap (λ (b : Bool). operations_of plan p ++ map (λ (v : PlanOp). v.op) (if b then o ∷ [] else [])) (eq-eqb p p refl)

-- which a plan has room for
pub pushed-few : (plan : Plan) (p : ℕ) (op : Op) → IsRight (longer plan (record { port = p; op = op })) → length (operations_of plan p) < 4096
pushed-few plan p op right =
    let few = few-own (longer plan (record { port = p; op = op })) p right in
    let more = ap length (pushed-operations plan p op) in
    let long = length-append (operations_of plan p) (op ∷ []) in
    omega (arith, few, more, long)
