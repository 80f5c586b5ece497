-- The outcome of a call is one of its operation's.
use Rattle.std.proofs.Common.{◌≡◌, ℕ, Bool, true, false, ◌&&◌, ◌==◌, inl, inr, List, [], ◌∷◌, ◌++◌, refl, subst}
use Rattle.std.specs.List.{AllByRecursion}
use Rattle.ace_event.specs.declared.event.Event.TheVariants as event
use Rattle.ace_event.specs.declared.event.Outcome.{Outcome}
use Rattle.ace_event.specs.declared.event.Outcome.TheVariants.{Ok, Skip, Fail}
use Rattle.ace_event.specs.declared.header.Header.{Header}
use Rattle.ace_model.specs.declared.plans.Op.{Op}
use Rattle.ace_model.specs.declared.plans.Op.TheVariants.{Ld, Ldx, St, Stx, Wb}
use Rattle.ace_model.specs.Plans.{Plan}
use Rattle.ace_model.specs.Trace.{Trace}
use Rattle.ace_runs.specs.Follows.{FollowsSoFar}
use Rattle.ace_runs.specs.Retiring.{may_retire}
use Rattle.ace_runs.specs.Segments.{acts_made}
use Rattle.ace_runs.proofs.NeverStuck.Phases.NextActs.{retires-next}
use Rattle.ace_history.specs.declared.entry.Entry.{Entry}
use Rattle.ace_history.specs.Ends.{CanEnd}
use Rattle.ace_history.specs.Histories.{IsLegalHistory, history_of, plan_with}

no-way : {A : Type 0} → (b : Bool) → (b && false) ≡ true → A
no-way true e = cc
no-way false e = cc

can-end : (h : Header) (past : Trace) (p : ℕ) (op : Op) (res : Outcome) → may_retire h past p op res ≡ true → CanEnd op res
can-end h past p (Ld a w) Ok m = refl
can-end h past p (Ld a w) Skip m = no-way (acts_made past p == 0) m
can-end h past p (Ld a w) Fail m = no-way (acts_made past p == 0) m
can-end h past p (Ldx a w) Ok m = refl
can-end h past p (Ldx a w) Skip m = no-way (acts_made past p == 0) m
can-end h past p (Ldx a w) Fail m = no-way (acts_made past p == 0) m
can-end h past p (St a w word) Ok m = refl
can-end h past p (St a w word) Skip m = no-way (acts_made past p == 0) m
can-end h past p (St a w word) Fail m = no-way (acts_made past p == 0) m
can-end h past p (Stx a w word) Ok m = inl refl
can-end h past p (Stx a w word) Skip m = no-way (acts_made past p == 0) m
can-end h past p (Stx a w word) Fail m = inr refl
can-end h past p (Wb a) Ok m = inl refl
can-end h past p (Wb a) Skip m = inr refl
can-end h past p (Wb a) Fail m = no-way (acts_made past p == 0) m
can-end h past p _ res m = tt

abbrev pub EndsWell : Entry → Type 0
EndsWell e = CanEnd e.op e.res

all-snoc : (xs : List Entry) (x : Entry) → AllByRecursion EndsWell xs → EndsWell x → AllByRecursion EndsWell (xs ++ x ∷ [])
all-snoc [] x all one = (one, tt)
all-snoc (y ∷ ys) x all one = (all.0, all-snoc ys x all.1 one)

each-ends : (plan : Plan) (past : Trace) → FollowsSoFar plan past → AllByRecursion EndsWell (history_of plan past)
each-ends plan [] f = tt
each-ends plan (event.Op p k res ∷ past) f =
    let r = retires-next plan past p k res f.1 in
    rw (r.1) (all-snoc (history_of plan past) _ (each-ends plan past f.0) (can-end plan.header past p r.0 res r.2))
each-ends plan (_ ∷ past) f = each-ends plan past f.0

pub legal-ends : (plan : Plan) (history : List Entry) → IsLegalHistory plan history → AllByRecursion EndsWell history
legal-ends plan history legal =
    subst (AllByRecursion EndsWell) legal.of_trace (each-ends (plan_with plan history) legal.past legal.follows.0)
