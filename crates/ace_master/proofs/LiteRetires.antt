-- The OP of an operation that may retire is a step, and which operations may.
use Rattle.std.proofs.Common.{◌≡◌, ℕ, Bool, true, false, not, ◌&&◌, ◌||◌, ◌==◌, nat_lt, if◌then◌else◌, List, [], ◌∷◌, length, Option, Some, None, is_some, refl, sym, ap, ◌∙◌}
use Rattle.std.specs.List.{list_all}
use Rattle.std.proofs.lemmas.Bool.{and_parts, eq-eqb}
use Rattle.ace_event.specs.declared.event.Event.{Event}
use Rattle.ace_event.specs.declared.event.Event.TheVariants.{Op as Retires}
use Rattle.ace_event.specs.declared.event.Outcome.TheVariants.{Ok}
use Rattle.ace_event.specs.declared.header.Header.{Header}
use Rattle.ace_model.specs.declared.plans.Op.{Op}
use Rattle.ace_model.specs.declared.plans.Op.TheVariants.{Ro, Cs, Ci, Mi, Rn, Wu, Wlu, Wn, Mb, Sb}
use Rattle.ace_model.specs.declared.transactions.Transaction.{Transaction}
use Rattle.ace_model.specs.OrderRules.{retired}
use Rattle.ace_model.specs.Plans.{Plan, is_lite_operation}
use Rattle.ace_model.specs.Trace.{Trace, implies, is_some_and}
use Rattle.ace_model.specs.Transactions.{is_outstanding}
use Rattle.ace_runs.specs.Acts.{acts_of, is_act_transaction}
use Rattle.ace_runs.specs.Bursts.{is_kept}
use Rattle.ace_runs.specs.MasterSteps.{moves}
use Rattle.ace_runs.specs.Operations.{next_operation}
use Rattle.ace_runs.specs.Retiring.{are_acts_done, is_met, may_retire}
use Rattle.ace_runs.specs.Segments.{acts_made, segment}
use Rattle.ace_runs.specs.Steps.{is_enabled_by}
use Rattle.ace_runs.proofs.NeverStuck.Operations.Kept.ClosingKept.{retirement-kept}
use Rattle.ace_engine.specs.Engines.{IsLegal}
use Rattle.ace_engine.proofs.LegalSteps.{legal-more}
use Rattle.ace_master.specs.Lite.{AreIssued, LiteTells, are_none_or_all, awaits_acts, both_of, own_steps}
use Rattle.ace_master.proofs.LiteMoves.{moves-waiting, none-enabled, retires-step, waits-for-acts}
use Rattle.ace_master.proofs.LiteNext.{IsNext, sent-none}
use Rattle.ace_master.proofs.LiteWaits.{for-lite}
use Rattle.ace_master.proofs.Obeying.{op-obeys}

-- ---- the OP ------------------------------------------------------------------------------------------

module _ (plan : Plan) (past : Trace) (p : ℕ) (legal : IsLegal plan past) (low : nat_lt p plan.header.ports ≡ true) (op : Op) (next : next_operation plan past p ≡ Some op)
    (may : may_retire plan.header past p op Ok ≡ true) where
  abbrev e : Event
  e = Retires p (retired past p) Ok

  pub retired-legal : IsLegal plan (e ∷ past)
  retired-legal =
      let kept = (and_parts (is_kept plan.header past e) true (retirement-kept plan.header past p Ok low)).0 in
      legal-more plan past e legal kept (op-obeys plan past legal.follows p (retired past p) Ok op next may) refl

  -- nothing is issued for the operation after it
  pub retired-issued : AreIssued plan (e ∷ past) p []
  retired-issued =
      let own : (p == p) ≡ true = eq-eqb p p refl in
      record {
        segment_is = ap (λ b. if b then [] else segment past p) own;
        made = ap (λ b. if b then 0 else acts_made past p) own;
        acts = refl;
        whole = refl;
      }

  pub retire-next : (operations : List Op) (reads writes : Option Transaction) → LiteTells plan past p operations reads writes None → IsNext plan past p (e ∷ []) operations None None None
  retire-next operations reads writes t = record {
    step = retires-step plan past p legal t.lite op low next may;
    legal = retired-legal;
    tells = record { low = t.low; lite = t.lite; operations_are = t.operations_are; issued = retired-issued; sent = t.sent };
  }

-- ---- which may retire --------------------------------------------------------------------------------

-- an operation that awaits its acts is met once they are done
met-done : (h : Header) (past : Trace) (p : ℕ) (op : Op) → is_lite_operation op ≡ true → awaits_acts op ≡ true → is_met h past p op ≡ are_acts_done h past p
met-done h past p (Ro a) lite awaits = refl
met-done h past p (Cs a) lite awaits = refl
met-done h past p (Ci a) lite awaits = refl
met-done h past p (Mi a) lite awaits = refl
met-done h past p (Rn a) lite awaits = refl
met-done h past p (Wu a strobe line) lite awaits = cc
met-done h past p (Wlu a line) lite awaits = cc
met-done h past p (Wn a strobe line) lite awaits = refl
met-done h past p Mb lite awaits = refl
met-done h past p Sb lite awaits = refl
met-done h past p op lite awaits = cc

-- all of them are done where none is outstanding
done-each : (h : Header) (past : Trace) (reads writes : Option Transaction) → list_all is_act_transaction (both_of reads writes) ≡ true
    → list_all (λ x. implies (is_act_transaction x) (not (is_outstanding h past x))) (both_of reads writes)
    ≡ (not (is_some_and reads (is_outstanding h past)) && not (is_some_and writes (is_outstanding h past)))
done-each h past None None acts = refl
done-each h past (Some x) None acts = let a = and_parts (is_act_transaction x) true acts in by (is_act_transaction x) (is_outstanding h past x) a.0
  where
    by : (a b : Bool) → a ≡ true → (implies a (not b) && true) ≡ (not b && true)
    by true b t = refl
    by false b t = cc
done-each h past None (Some y) acts = let a = and_parts (is_act_transaction y) true acts in by (is_act_transaction y) (is_outstanding h past y) a.0
  where
    by : (a b : Bool) → a ≡ true → (implies a (not b) && true) ≡ (true && not b)
    by true true t = refl
    by true false t = refl
    by false b t = cc
done-each h past (Some x) (Some y) acts =
    let a = and_parts (is_act_transaction x) (is_act_transaction y && true) acts in
    by (is_act_transaction x) (is_act_transaction y) (is_outstanding h past x) (is_outstanding h past y) a.0 (and_parts (is_act_transaction y) true a.1).0
  where
    by : (a c b d : Bool) → a ≡ true → c ≡ true → (implies a (not b) && (implies c (not d) && true)) ≡ (not b && not d)
    by true true true d s t = refl
    by true true false true s t = refl
    by true true false false s t = refl
    by true false b d s t = cc
    by false c b d s t = cc

module _ (plan : Plan) (past : Trace) (p : ℕ) (legal : IsLegal plan past) (operations : List Op) (reads writes : Option Transaction)
    (t : LiteTells plan past p operations reads writes None) (op : Op) (next : next_operation plan past p ≡ Some op) (some : (is_some reads || is_some writes) ≡ true) where
  abbrev h : Header
  h = plan.header

  -- all are there
  all-there : (awaits_acts op && (length (both_of reads writes) == length (acts_of op))) ≡ true
  all-there = by reads writes some (ap (λ o. are_none_or_all o (both_of reads writes)) (sym next) ∙ t.issued.whole)
    where
      by : (r w : Option Transaction) → (is_some r || is_some w) ≡ true → are_none_or_all (Some op) (both_of r w) ≡ true → (awaits_acts op && (length (both_of r w) == length (acts_of op))) ≡ true
      by None None s e = cc
      by (Some x) None s e = e
      by None (Some y) s e = e
      by (Some x) (Some y) s e = e

  -- so it may retire where none of them is outstanding
  pub may-retire : may_retire h past p op Ok ≡ (not (is_some_and reads (is_outstanding h past)) && not (is_some_and writes (is_outstanding h past)))
  may-retire =
      let both = and_parts (awaits_acts op) (length (both_of reads writes) == length (acts_of op)) all-there in
      ap (λ n. (n == length (acts_of op)) && is_met h past p op) t.issued.made ∙ ap (λ b. b && is_met h past p op) both.1
      ∙ met-done h past p op (for-lite plan past p op legal t.lite next) both.0
      ∙ ap (list_all (λ x. implies (is_act_transaction x) (not (is_outstanding h past x)))) t.issued.segment_is
      ∙ done-each h past reads writes t.issued.acts

  some-made : (acts_made past p == 0) ≡ false
  some-made = ap (λ n. n == 0) t.issued.made ∙ by reads writes some
    where
      by : (r w : Option Transaction) → (is_some r || is_some w) ≡ true → (length (both_of r w) == 0) ≡ false
      by None None s = cc
      by (Some x) None s = refl
      by None (Some y) s = refl
      by (Some x) (Some y) s = refl

  -- and where one is, it waits
  pub not-done : (not (is_some_and reads (is_outstanding h past)) && not (is_some_and writes (is_outstanding h past))) ≡ false → is_enabled_by own_steps plan past p ≡ false
  not-done out =
      none-enabled plan past p legal t.lite (sent-none past p t.sent) (ap (λ o. is_some_and o (λ op. may_retire h past p op Ok)) next ∙ may-retire ∙ out)
      (ap (λ o. moves plan.ways o h past p) next ∙ moves-waiting plan past p legal t.lite plan.ways op (waits-for-acts plan past p legal t.lite op some-made))
