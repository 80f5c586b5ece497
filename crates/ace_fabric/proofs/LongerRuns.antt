-- The parts of a run with one more operation at the end of its plan, which one of the masters has been given.
use Rattle.std.proofs.Common.{◌≡◌, ◌≢◌, ◌-◌, ◌==◌, ◌&&◌, ◌∷◌, ◌∙◌, ℕ, Bool, false, List, [], length, slice_get, Some, inl, inr, refl, sym, ap, subst, arith}
use Rattle.std.proofs.Math.ListN.{get_or, set}
use Rattle.std.proofs.lemmas.Bool.{cases_eq, ne_eqb}
use Rattle.std.proofs.lemmas.List.{length-append, length-set}
use Rattle.std.proofs.lemmas.Option.{slice_get-get_or, slice_get_within}
use Rattle.ace_model.specs.declared.plans.Op.{Op}
use Rattle.ace_model.specs.declared.plans.PlanOp.{PlanOp}
use Rattle.ace_model.specs.OrderRules.{retired}
use Rattle.ace_model.specs.Plans.{IsRight, Plan, longer}
use Rattle.ace_model.specs.Trace.{Trace}
use Rattle.ace_model.proofs.General.Options.{Some-injective}
use Rattle.ace_runs.specs.Operations.{operations_of}
use Rattle.ace_runs.specs.Steps.{AreSteps}
use Rattle.ace_runs.proofs.LongerPlans.{step-longer}
use Rattle.ace_runs.proofs.Turns.{of-each-run, steps-further}
use Rattle.ace_engine.specs.Engines.{EngineKind, Home, IsLegal, Order, Update, is_master, is_their_operation}
use Rattle.ace_engine.specs.declared.engine.Engine.{Ghosts}
use Rattle.ace_engine.proofs.LongerPlans.{legal-longer}
use Rattle.ace_master.specs.LiteLaws.{same-operations}
use Rattle.ace_master.proofs.AcePorts.Pushed.{pushed-few, pushed-operations}
use Rattle.ace_master.proofs.Retirements.{retired-within}
use Rattle.ace_fabric.specs.Left.{CountsStand, PortStands, with_one_more}
use Rattle.ace_fabric.specs.Parts.{AreEngines, AreMasters, TakesPart}
use Rattle.ace_fabric.specs.declared.left.PortLeft.{PortLeft}
use Rattle.ace_fabric.proofs.Places.{set-at}

-- ---- the engines -------------------------------------------------------------------------------------

-- one of the interconnect has no operations
part-grows : {E : Type 0} → (g : Ghosts E) (kind : EngineKind) (plan : Plan) (past : Trace) (o : PlanOp) (engine : E) → is_master kind ≡ false → IsRight (longer plan o)
    → TakesPart g kind plan past engine → TakesPart g kind (longer plan o) past engine
part-grows g kind plan past o engine off right t = record {
  kind_is = t.kind_is;
  serves = t.serves;
  stands = g.grows engine plan past o t.stands right
      (ap (λ (k : EngineKind). is_their_operation k (g.serves engine) o) t.kind_is ∙ ap (λ (b : Bool). b && g.serves engine o.port) off);
}

-- one master has its operation, and the others have none of it
pub masters-grow : {M : Type 0} → (g : Ghosts M) (plan : Plan) (past : Trace) (o : PlanOp) (own : ℕ) (olds : List M) (x y : M) → own ≡ o.port → IsRight (longer plan o)
    → AreMasters g plan past olds → slice_get olds own ≡ Some x → ((p : ℕ) → g.serves y p ≡ g.serves x p) → g.stands y (longer plan o) past
    → AreMasters g (longer plan o) past (set olds own y)
masters-grow {M} g plan past o own olds x y is right a at serves stands = record {
  kind_is = a.kind_is;
  count = length-set olds own y ∙ a.count;
  serve = λ k m there. (each k m there).0;
  stand = λ k m there. (each k m there).1;
}
  where
    each : (k : ℕ) (m : M) → slice_get (set olds own y) k ≡ Some m → ((p : ℕ) → g.serves m p ≡ (p == k)) × g.stands m (longer plan o) past
    each k m there = elim (set-at olds k own y m there) [
      | inl here ↦ (
        (λ p. ap (λ (z : M). g.serves z p) here.1 ∙ serves p ∙ a.serve own x at p ∙ ap (λ (q : ℕ). p == q) (sym here.0)),
        subst (λ (z : M). g.stands z (longer plan o) past) (sym here.1) stands,
      )
      | inr off ↦ (
        a.serve k m off.1,
        g.grows m plan past o (a.stand k m off.1) right
            (ap (λ (e : EngineKind). is_their_operation e (g.serves m) o) a.kind_is ∙ a.serve k m off.1 o.port ∙ ne_eqb o.port k (λ e. off.0 (sym e ∙ sym is))),
      )
    ]

-- a list of steps of the plan is one of the longer plan
steps-grow : (plan : Plan) (past : Trace) (o : PlanOp) → AreSteps plan past → AreSteps (longer plan o) past
steps-grow plan past o s =
    of-each-run plan (AreSteps (longer plan o)) ([], refl) (λ before p burst so step. steps-further (longer plan o) before p burst so (step-longer plan (o ∷ []) before p burst step)) past s

pub engines-grow : {H U O M : Type 0} → (h : Ghosts H) (u : Ghosts U) (o : Ghosts O) (m : Ghosts M) (plan : Plan) (past : Trace) (op : PlanOp) (home : H) (update : U) (order : O) (olds news : List M)
    → IsRight (longer plan op) → AreEngines h u o m plan past home update order olds → AreMasters m (longer plan op) past news
    → AreEngines h u o m (longer plan op) past home update order news
engines-grow h u o m plan past op home update order olds news right r masters = record {
  legal = legal-longer plan past op r.legal right;
  steps = steps-grow plan past op r.steps;
  home_is = part-grows h Home plan past op home refl right r.home_is;
  update_is = part-grows u Update plan past op update refl right r.update_is;
  order_is = part-grows o Order plan past op order refl right r.order_is;
  masters_are = masters;
}

-- ---- what is left ------------------------------------------------------------------------------------

-- the port has one more operation left
own-grows : (plan : Plan) (past : Trace) (p : ℕ) (op : Op) (s : PortLeft) → IsLegal plan past → IsRight (longer plan (record { port = p; op = op })) → PortStands plan past p s
    → PortStands (longer plan (record { port = p; op = op })) past p (with_one_more s)
own-grows plan past p op s legal right t =
    let within = retired-within plan past p legal.follows in
    let few = pushed-few plan p op right in
    let more = ap length (pushed-operations plan p op) in
    let long = length-append (operations_of plan p) (op ∷ []) in
    let left = t.operations in
    record { operations = omega (arith, within, few, more, long, left); snoops = t.snoops }

-- another port has as many
other-stays : (plan : Plan) (past : Trace) (o : PlanOp) (p : ℕ) (s : PortLeft) → (o.port == p) ≡ false → PortStands plan past p s → PortStands (longer plan o) past p s
other-stays plan past o p s other t =
    record { operations = t.operations ∙ ap (λ (os : List Op). length os - retired past p) (sym (same-operations plan o p other)); snoops = t.snoops }

pub counts-grow : (plan : Plan) (past : Trace) (q : ℕ) (op : Op) (olds news : List PortLeft) → IsLegal plan past → IsRight (longer plan (record { port = q; op = op })) → length news ≡ length olds
    → ((x : PortLeft) → slice_get olds q ≡ Some x → slice_get news q ≡ Some (with_one_more x)) → ((k : ℕ) → k ≢ q → slice_get news k ≡ slice_get olds k)
    → CountsStand plan past olds → CountsStand (longer plan (record { port = q; op = op })) past news
counts-grow plan past q op olds news legal right len own others stand = λ p k there.
    elim (cases_eq p q) [
      | inl here ↦
          let high = slice_get_within news p k there in
          let x : PortLeft = get_or olds p k in
          let old : slice_get olds p ≡ Some x = slice_get-get_or olds p k (omega (arith, high, len)) in
          let at : slice_get olds q ≡ Some x = ap (slice_get olds) (sym here) ∙ old in
          let same : with_one_more x ≡ k = Some-injective (with_one_more x) k (sym (own x at) ∙ ap (slice_get news) (sym here) ∙ there) in
          let grown = own-grows plan past q op x legal right (stand q x at) in
          subst (λ (r : ℕ). PortStands (longer plan (record { port = q; op = op })) past r k) (sym here)
          (subst (λ (z : PortLeft). PortStands (longer plan (record { port = q; op = op })) past q z) same grown)
      | inr off ↦
          other-stays plan past (record { port = q; op = op }) p k (ne_eqb q p (λ e. off (sym e))) (stand p k (sym (others p off) ∙ there))
    ]
