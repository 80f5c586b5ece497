-- A trace that follows a plan so far and is lean does so with a longer plan: where a demand asks for the port's next operation, there is one.
use Rattle.std.proofs.Common.{◌≡◌, Bool, true, false, ◌&&◌, List, [], ◌∷◌, ◌++◌, length, Option, Some, None, is_some, inl, inr, refl}
use Rattle.std.specs.List.{list_any}
use Rattle.std.proofs.lemmas.Bool.{and_from, and_parts, or_cases, or_left, or_right}
use Rattle.ace_event.specs.declared.event.Event.{Event}
use Rattle.ace_event.specs.declared.event.Event.TheVariants.{W, S, Op}
use Rattle.ace_model.specs.declared.plans.Op.{Op as Operation}
use Rattle.ace_model.specs.declared.plans.PlanOp.{PlanOp}
use Rattle.ace_model.specs.declared.transactions.Transaction.{Transaction}
use Rattle.ace_model.specs.Plans.{IsRight, Plan, longer}
use Rattle.ace_model.specs.Trace.{Trace, at_point, implies, is_none_or, is_some_and, port_of}
use Rattle.ace_model.specs.Transactions.{issued}
use Rattle.ace_model.specs.Writes.{next_write}
use Rattle.ace_runs.specs.Operations.{next_operation, with_more}
use Rattle.ace_runs.specs.Follows.{FollowsSoFar, EachEvent, acts_well, answers_well, carries, carries_data, has_room_after, is_next_act, obeys, retires_well}
use Rattle.ace_runs.specs.Lean.{IsLean, is_on_named_line, is_one_of_three, is_one_of_two, stays_lean}
use Rattle.ace_runs.specs.Acts.{is_act}
use Rattle.ace_runs.proofs.LongerPlans.{next-longer}
use Rattle.ace_engine.specs.Engines.{IsLegal}

-- ---- tests of an option ------------------------------------------------------------------------------

-- what is there stays there
abbrev Stays : Option Operation → Option Operation → Type 0
Stays now later = (op : Operation) → now ≡ Some op → later ≡ Some op

test-stays : (now later : Option Operation) (test : Operation → Bool) → Stays now later → is_some_and now test ≡ true → is_some_and later test ≡ true
test-stays None later test stays t = cc
test-stays (Some op) later test stays t = rw (stays op refl) t

some-stays : (now later : Option Operation) → Stays now later → is_some now ≡ true → is_some later ≡ true
some-stays None later stays t = cc
some-stays (Some op) later stays t = rw (stays op refl) refl

then-too : (a b c : Bool) → (b ≡ true → c ≡ true) → implies a b ≡ true → implies a c ≡ true
then-too true b c f t = f t
then-too false b c f t = refl

both-too : (a b c d : Bool) → (a ≡ true → c ≡ true) → (b ≡ true → d ≡ true) → (a && b) ≡ true → (c && d) ≡ true
both-too a b c d f g t = let parts = and_parts a b t in and_from c d (f parts.0) (g parts.1)

if-some : {A : Type 0} (o : Option A) (f g : A → Bool) → ((x : A) → f x ≡ true → g x ≡ true) → is_some_and o f ≡ true → is_some_and o g ≡ true
if-some None f g h t = t
if-some (Some x) f g h t = h x t

if-any : {A : Type 0} (o : Option A) (f g : A → Bool) → ((x : A) → f x ≡ true → g x ≡ true) → is_none_or o f ≡ true → is_none_or o g ≡ true
if-any None f g h t = t
if-any (Some x) f g h t = h x t

any-further : {A : Type 0} (test : A → Bool) (xs ys : List A) → list_any test xs ≡ true → list_any test (xs ++ ys) ≡ true
any-further test [] ys t = cc
any-further test (x ∷ xs) ys t = elim (or_cases (test x) (list_any test xs) t) [
  | inl here ↦ or_left (test x) (list_any test (xs ++ ys)) here
  | inr later ↦ or_right (test x) (list_any test (xs ++ ys)) (any-further test xs ys later)
]

-- ---- each demand -------------------------------------------------------------------------------------

retires-longer : (plan : Plan) (more : List PlanOp) (past : Trace) (e : Event) → retires_well plan past e ≡ true → retires_well (with_more plan more) past e ≡ true
retires-longer plan more past (Op p k res) t =
    test-stays (next_operation plan past p) (next_operation (with_more plan more) past p) _ (next-longer plan more past p) t
retires-longer plan more past e t = refl

acts-longer : (plan : Plan) (more : List PlanOp) (past : Trace) (e : Event) → acts_well plan past e ≡ true → acts_well (with_more plan more) past e ≡ true
acts-longer plan more past e t =
    then-too (is_act e) (is_some_and (port_of e) (is_next_act plan past e)) (is_some_and (port_of e) (is_next_act (with_more plan more) past e))
    (if-some (port_of e) (is_next_act plan past e) (is_next_act (with_more plan more) past e)
    (λ p. test-stays (next_operation plan past p) (next_operation (with_more plan more) past p) _ (next-longer plan more past p))) t

carries-longer : (plan : Plan) (more : List PlanOp) (past : Trace) (e : Event) → carries_data plan past e ≡ true → carries_data (with_more plan more) past e ≡ true
carries-longer plan more past (W p strb last word) t =
    if-any (next_write past p) (carries plan past p strb word) (carries (with_more plan more) past p strb word)
    (λ x. then-too _ _ _
    (test-stays (next_operation plan (at_point x.place past) x.port) (next_operation (with_more plan more) (at_point x.place past) x.port) _
    (next-longer plan more (at_point x.place past) x.port))) t
carries-longer plan more past e t = refl

obeys-longer : (plan : Plan) (more : List PlanOp) (past : Trace) (e : Event) → obeys plan past e ≡ true → obeys (with_more plan more) past e ≡ true
obeys-longer plan more past e t =
    let four = and_parts (retires_well plan past e && acts_well plan past e && carries_data plan past e && answers_well plan past e) (has_room_after plan past e) t in
    let three = and_parts (retires_well plan past e && acts_well plan past e && carries_data plan past e) (answers_well plan past e) four.0 in
    let two = and_parts (retires_well plan past e && acts_well plan past e) (carries_data plan past e) three.0 in
    let one = and_parts (retires_well plan past e) (acts_well plan past e) two.0 in
    and_from _ _ (and_from _ _ (and_from _ _ (and_from _ _ (retires-longer plan more past e one.0) (acts-longer plan more past e one.1)) (carries-longer plan more past e two.1)) three.1) four.1

three-longer : (plan : Plan) (more : List PlanOp) (past : Trace) (x : Transaction) → is_one_of_three plan past x ≡ true → is_one_of_three (with_more plan more) past x ≡ true
three-longer plan more past x =
    then-too _ _ _
    (both-too _ _ _ _ (some-stays (next_operation plan past x.port) (next_operation (with_more plan more) past x.port) (next-longer plan more past x.port)) (λ few. few))

named-longer : (plan : Plan) (more : List PlanOp) (x : Transaction) → is_on_named_line plan x ≡ true → is_on_named_line (with_more plan more) x ≡ true
named-longer plan more x = then-too _ _ _ (any-further _ plan.operations more)

two-longer : (plan : Plan) (more : List PlanOp) (past : Trace) (e : Event) → is_one_of_two plan past e ≡ true → is_one_of_two (with_more plan more) past e ≡ true
two-longer plan more past (S p addr st) t =
    both-too _ _ _ _ (some-stays (next_operation plan past p) (next_operation (with_more plan more) past p) (next-longer plan more past p)) (λ few. few) t
two-longer plan more past e t = refl

lean-longer : (plan : Plan) (more : List PlanOp) (past : Trace) (e : Event) → stays_lean plan past e ≡ true → stays_lean (with_more plan more) past e ≡ true
lean-longer plan more past e =
    both-too _ _ _ _
    (if-any (issued (length past) e) (λ x. is_one_of_three plan past x && is_on_named_line plan x) (λ x. is_one_of_three (with_more plan more) past x && is_on_named_line (with_more plan more) x)
    (λ x. both-too _ _ _ _ (three-longer plan more past x) (named-longer plan more x)))
    (two-longer plan more past e)

-- ---- all events --------------------------------------------------------------------------------------

each-too : (f g : Trace → Event → Bool) → ((past : Trace) (e : Event) → f past e ≡ true → g past e ≡ true) → (past : Trace) → EachEvent f past → EachEvent g past
each-too f g h [] all = all
each-too f g h (e ∷ past) all = (each-too f g h past all.0, h past e all.1)

follows-longer : (plan : Plan) (more : List PlanOp) (past : Trace) → FollowsSoFar plan past → FollowsSoFar (with_more plan more) past
follows-longer plan more past = each-too (obeys plan) (obeys (with_more plan more)) (obeys-longer plan more) past

stays-lean-longer : (plan : Plan) (more : List PlanOp) (past : Trace) → IsLean plan past → IsLean (with_more plan more) past
stays-lean-longer plan more past = each-too (stays_lean plan) (stays_lean (with_more plan more)) (lean-longer plan more) past

-- With one more operation at the end of the plan an engine may stand for the same trace.
pub legal-longer : (plan : Plan) (past : Trace) (o : PlanOp) → IsLegal plan past → IsRight (longer plan o) → IsLegal (longer plan o) past
legal-longer plan past o legal right = record {
  right = right;
  accepted = legal.accepted;
  follows = follows-longer plan (o ∷ []) past legal.follows;
  lean = stays-lean-longer plan (o ∷ []) past legal.lean;
}
