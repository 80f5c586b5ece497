-- What makes that an event of a master obeys the plan and is lean.
use Rattle.std.proofs.Common.{◌≡◌, ℕ, zero, suc, Bool, true, false, not, ◌&&◌, ◌==◌, nat_lt, List, [], ◌∷◌, length, Some, is_some, slice_get, refl, sym, ap, ◌∙◌}
use Rattle.std.specs.List.{list_any}
use Rattle.std.proofs.lemmas.Bool.{and_from, eq-eqb, or_left, or_right}
use Rattle.ace_event.specs.declared.event.Event.{Event}
use Rattle.ace_event.specs.declared.event.Event.TheVariants.{Ar, Aw, W, Op as Retires}
use Rattle.ace_event.specs.declared.event.Outcome.{Outcome}
use Rattle.ace_tables.specs.Answers.{same_test}
use Rattle.ace_model.specs.declared.plans.Op.{Op}
use Rattle.ace_model.specs.declared.transactions.Transaction.{Transaction}
use Rattle.ace_model.specs.AddressRules.{is_no_snoop}
use Rattle.ace_model.specs.Messages.{is_dvm_completion}
use Rattle.ace_model.specs.Plans.{Plan, line_named, wants_no_snoop}
use Rattle.ace_model.specs.Trace.{Trace, is_none_or, is_some_and}
use Rattle.ace_model.specs.Transactions.{is_line, issued}
use Rattle.ace_model.specs.Writes.{next_write}
use Rattle.ace_runs.specs.Acts.{acts_of, is_act}
use Rattle.ace_runs.specs.Follows.{FollowsSoFar, acts_well, answers_well, carries, carries_data, has_room_after, is_next_act, obeys, retires_well}
use Rattle.ace_runs.specs.Lean.{is_on_named_line, is_one_of_three, is_one_of_two, stays_lean}
use Rattle.ace_runs.specs.Operations.{names, next_operation}
use Rattle.ace_runs.specs.Retiring.{may_retire}
use Rattle.ace_runs.specs.Segments.{acts_made, segment}
use Rattle.ace_runs.proofs.NeverStuck.Operations.Kept.AsksKept.{implies-right}
use Rattle.ace_runs.proofs.NeverStuck.Operations.Lines.OfPlan.{IsPlanned}
use Rattle.ace_engine.proofs.OfInterconnect.{still-few}

obeys-all : (plan : Plan) (past : Trace) (e : Event) → retires_well plan past e ≡ true → acts_well plan past e ≡ true → carries_data plan past e ≡ true → answers_well plan past e ≡ true
    → has_room_after plan past e ≡ true → obeys plan past e ≡ true
obeys-all plan past e a b c d r = and_from _ _ (and_from _ _ (and_from _ _ (and_from _ _ a b) c) d) r

module _ (plan : Plan) (past : Trace) (follows : FollowsSoFar plan past) (p : ℕ) where
  -- the next act of the port's next operation
  next-act : (e : Event) (op : Op) (fits : Event → Bool) → next_operation plan past p ≡ Some op → slice_get (acts_of op) (acts_made past p) ≡ Some fits → fits e ≡ true → is_next_act plan past e p ≡ true
  next-act e op fits next turn passes =
      ap (λ o. is_some_and o (λ op. is_some_and (slice_get (acts_of op) (acts_made past p)) (λ fits. fits e))) next ∙ ap (λ o. is_some_and o (λ f. f e)) turn ∙ passes

  pub ar-obeys : (i a s d b : ℕ) (lock : Bool) (op : Op) (fits : Event → Bool) → next_operation plan past p ≡ Some op → slice_get (acts_of op) (acts_made past p) ≡ Some fits
      → fits (Ar p i a s d b lock) ≡ true → obeys plan past (Ar p i a s d b lock) ≡ true
  ar-obeys i a s d b lock op fits next turn passes =
      let e = Ar p i a s d b lock in
      obeys-all plan past e refl (implies-right (is_act e) (is_next_act plan past e p) (next-act e op fits next turn passes)) refl refl (still-few plan past p follows)

  pub aw-obeys : (i a s d b : ℕ) (op : Op) (fits : Event → Bool) → next_operation plan past p ≡ Some op → slice_get (acts_of op) (acts_made past p) ≡ Some fits
      → fits (Aw p i a s d b) ≡ true → obeys plan past (Aw p i a s d b) ≡ true
  aw-obeys i a s d b op fits next turn passes =
      let e = Aw p i a s d b in
      obeys-all plan past e refl (implies-right (is_act e) (is_next_act plan past e p) (next-act e op fits next turn passes)) refl refl (still-few plan past p follows)

  pub op-obeys : (k : ℕ) (res : Outcome) (op : Op) → next_operation plan past p ≡ Some op → may_retire plan.header past p op res ≡ true → obeys plan past (Retires p k res) ≡ true
  op-obeys k res op next may =
      obeys-all plan past (Retires p k res) (ap (λ o. is_some_and o (λ op. may_retire plan.header past p op res)) next ∙ may) refl refl refl (still-few plan past p follows)

  pub w-obeys : (strb : ℕ) (last : Bool) (word : ℕ) (x : Transaction) → next_write past p ≡ Some x → carries plan past p strb word x ≡ true → obeys plan past (W p strb last word) ≡ true
  w-obeys strb last word x next carried =
      obeys-all plan past (W p strb last word) refl refl (ap (λ o. is_none_or o (carries plan past p strb word)) next ∙ carried) refl (still-few plan past p follows)

-- ---- leanness ----------------------------------------------------------------------------------------

-- an event that issues one of at most three transactions, on a line of the plan
pub issue-lean : (plan : Plan) (past : Trace) (e : Event) (x : Transaction) (op : Op) → issued (length past) e ≡ Some x → is_one_of_two plan past e ≡ true
    → next_operation plan past x.port ≡ Some op → nat_lt (length (segment past x.port)) 3 ≡ true → is_on_named_line plan x ≡ true → stays_lean plan past e ≡ true
issue-lean plan past e x op new two next few line =
    let three : is_one_of_three plan past x ≡ true =
    implies-right (not (is_dvm_completion x)) (is_some (next_operation plan past x.port) && nat_lt (length (segment past x.port)) 3) (and_from _ _ (ap is_some next) few) in
    and_from _ _ (ap (λ o. is_none_or o (λ x. is_one_of_three plan past x && is_on_named_line plan x)) new ∙ and_from _ _ three line) two

any-here : {A : Type 0} → (test : A → Bool) (xs : List A) (k : ℕ) (x : A) → slice_get xs k ≡ Some x → test x ≡ true → list_any test xs ≡ true
any-here test [] k x there t = cc
any-here test (y ∷ xs) zero x there t = let same : y ≡ x = cc in or_left (test y) (list_any test xs) (ap test same ∙ t)
any-here test (y ∷ xs) (suc k) x there t = or_right (test y) (list_any test xs) (any-here test xs k x there t)

same-both : (a b : Bool) → b ≡ a → same_test a b ≡ true
same-both true true e = refl
same-both false false e = refl
same-both true false e = cc
same-both false true e = cc

-- on the line that an operation of the plan names, and of its class
pub on-named-line : (plan : Plan) (p a : ℕ) (op : Op) (x : Transaction) → IsPlanned plan p op → line_named op ≡ Some a → x.addr ≡ a → wants_no_snoop op ≡ is_no_snoop x → is_on_named_line plan x ≡ true
on-named-line plan p a op x o line addr class =
    let named : names x.addr o.planned ≡ true = ap (λ v. is_some_and (line_named v) (λ b. b == x.addr)) o.is ∙ ap (λ l. is_some_and l (λ b. b == x.addr)) line ∙ eq-eqb a x.addr (sym addr) in
    let same : same_test (is_no_snoop x) (wants_no_snoop o.planned.op) ≡ true = same-both (is_no_snoop x) (wants_no_snoop o.planned.op) (ap wants_no_snoop o.is ∙ class) in
    implies-right (is_line x) _ (any-here (λ o. names x.addr o && same_test (is_no_snoop x) (wants_no_snoop o.op)) plan.operations o.place o.planned o.there (and_from _ _ named same))
