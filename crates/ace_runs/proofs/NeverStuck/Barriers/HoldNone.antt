-- In a run no barrier holds back a grant: a barrier before a line transaction of its port is complete.
use Rattle.std.proofs.Common.{◌≡◌, ℕ, suc, ◌<◌, Bool, true, not, ◌==◌, nat_lt, List, [], ◌∷◌, ◌++◌, Some, slice_get, inl, inr, refl, sym, subst, arith}
use Rattle.std.specs.List.{list_all}
use Rattle.std.proofs.Math.Nat.{le-max_left, le-max_right}
use Rattle.std.proofs.lemmas.Bool.{and_from, or_cases, eqb-true, ltb-true, not-true, false_from_ne_true}
use Rattle.ace_codes.specs.Places.{is_barrier}
use Rattle.ace_codes.specs.Reads.{ar_kind_of}
use Rattle.ace_codes.specs.Writes.{aw_kind_of}
use Rattle.ace_event.specs.declared.event.Channel.TheVariants.{Read, Write}
use Rattle.ace_event.specs.declared.event.Event.{Event}
use Rattle.ace_event.specs.declared.event.Event.TheVariants.{Ar, Aw, B}
use Rattle.ace_model.specs.declared.transactions.Transaction.{Transaction}
use Rattle.ace_model.specs.Accepted.{IsAccepted}
use Rattle.ace_model.specs.Barriers.{Pair, is_pair_complete, pairs, place_of}
use Rattle.ace_model.specs.OrderRules.{is_past_barriers}
use Rattle.ace_model.specs.Plans.{Plan}
use Rattle.ace_model.specs.Trace.{Trace, implies, is_some_and}
use Rattle.ace_model.specs.Transactions.{is_line, is_outstanding}
use Rattle.ace_model.proofs.Barriers.Pairs.{is_barrier_of-is, pairs-halves}
use Rattle.ace_model.proofs.General.Options.{is_some_and-at, is_some_and-is}
use Rattle.ace_model.proofs.Outstanding.Waiting.{ended_complete}
use Rattle.ace_model.proofs.Trace.Growth.{IsIssued}
use Rattle.ace_runs.specs.Bursts.{onto}
use Rattle.ace_runs.specs.Follows.{FollowsSoFar, obeys}
use Rattle.ace_runs.specs.Operations.{next_operation}
use Rattle.ace_runs.specs.OrderSteps.{plain_transfer}
use Rattle.ace_runs.specs.Requests.{barrier_halves}
use Rattle.ace_runs.specs.Steps.{AreSteps, is_step}
use Rattle.ace_runs.proofs.Accepting.{accepted-after}
use Rattle.ace_runs.proofs.SoFar.{before-burst}
use Rattle.ace_runs.proofs.Turns.{of-each-run, step-kept}
use Rattle.ace_runs.proofs.NeverStuck.Steps.SameBursts.{all-as}
use Rattle.ace_runs.proofs.NeverStuck.Steps.Lists.{all-append, all-implied}
use Rattle.ace_runs.proofs.NeverStuck.Reads.TransfersKept.{implied_by}
use Rattle.ace_runs.proofs.NeverStuck.Barriers.Acts.{is_barrier_operation}
use Rattle.ace_runs.proofs.NeverStuck.Barriers.Asks.{all-no-line}
use Rattle.ace_runs.proofs.NeverStuck.Barriers.GoesOn.{AsksBarrier, same-no-line}
use Rattle.ace_runs.proofs.NeverStuck.Barriers.OfNext.{barrier-of-next}
use Rattle.ace_runs.proofs.NeverStuck.Barriers.Quiet.{issues_no_line}
use Rattle.ace_runs.proofs.NeverStuck.Barriers.Responses.{is_response_for}
use Rattle.ace_runs.proofs.NeverStuck.Barriers.StepShape.{order-shape}
use Rattle.ace_runs.proofs.NeverStuck.Barriers.DoneBefore.{AreAllDone, AreDoneBefore, no-line-keeps, ordinary-keeps}

-- ---- bursts without line transactions ----------------------------------------------------------------

response-no-line : (x : Transaction) (e : Event) → is_response_for x e ≡ true → issues_no_line e ≡ true
response-no-line x (Ar q i addr snoop dom bar lock) m = cc
response-no-line x (Aw q i addr snoop dom bar) m = cc
response-no-line x e m = refl

memory-halves : (p i : ℕ) → list_all issues_no_line (barrier_halves p 1 i) ≡ true
unfolding ar_kind_of aw_kind_of
memory-halves p i = refl

synchronisation-halves : (p i : ℕ) → list_all issues_no_line (barrier_halves p 3 i) ≡ true
unfolding ar_kind_of aw_kind_of
synchronisation-halves p i = refl

halves-no-line : (p bar i : ℕ) → is_barrier bar ≡ true → list_all issues_no_line (barrier_halves p bar i) ≡ true
halves-no-line p bar i b =
    elim (or_cases (bar == 1) (bar == 3) b) [
      | inl one ↦ subst (λ n. list_all issues_no_line (barrier_halves p n i) ≡ true) (sym (eqb-true bar 1 one)) (memory-halves p i)
      | inr three ↦ subst (λ n. list_all issues_no_line (barrier_halves p n i) ≡ true) (sym (eqb-true bar 3 three)) (synchronisation-halves p i)
    ]

barrier-no-line : (p : ℕ) (burst : List Event) → AsksBarrier p burst → list_all issues_no_line burst ≡ true
barrier-no-line p burst a =
    all-as issues_no_line same-no-line (barrier_halves p a.bar a.id ++ a.rest) burst a.same
    (all-append issues_no_line (barrier_halves p a.bar a.id) a.rest (halves-no-line p a.bar a.id a.is) (all-no-line a.rest a.quiet))

-- ---- each step ---------------------------------------------------------------------------------------

-- where the next operation is no barrier, none of the port is outstanding
all-done : (plan : Plan) (past : Trace) (p : ℕ) → IsAccepted plan.header past → FollowsSoFar plan past
    → is_some_and (next_operation plan past p) (λ o. not (is_barrier_operation o)) ≡ true → AreAllDone past p
all-done plan past p a f other y i half port =
    ended_complete plan.header past y a i
    (false_from_ne_true (is_outstanding plan.header past y) (λ out.
    let of = barrier-of-next plan past y f i half out in
    let o = is_some_and-is (next_operation plan past p) (λ o. not (is_barrier_operation o)) other in
    let barrier = is_some_and-at (next_operation plan past p) is_barrier_operation o.0 (subst (λ q. is_some_and (next_operation plan past q) is_barrier_operation ≡ true) port of.next) o.1 in
    let none = not-true (is_barrier_operation o.0) o.2 in cc))

done-kept : (plan : Plan) (past : Trace) (p : ℕ) (burst : List Event) → IsAccepted plan.header past → FollowsSoFar plan past → AreDoneBefore past
    → is_step plan past p burst ≡ true → AreDoneBefore (onto burst past)
done-kept plan past p burst a f done step =
    elim (order-shape plan past p burst step) [
      | inl quiet ↦ no-line-keeps burst past done (all-no-line burst quiet)
      | inr (inl r) ↦ no-line-keeps burst past done (all-implied (is_response_for r.of) issues_no_line (response-no-line r.of) burst r.all)
      | inr (inr (inl b)) ↦
          no-line-keeps burst past done (all-as issues_no_line same-no-line (plain_transfer b.pair.read ∷ B b.pair.write.port b.pair.write.id 0 ∷ []) burst b.same refl)
      | inr (inr (inr (inl beside))) ↦ no-line-keeps burst past done beside.1
      | inr (inr (inr (inr (inl other)))) ↦ ordinary-keeps burst past p done (all-done plan past p a f other.0) other.1
      | inr (inr (inr (inr (inr asks)))) ↦ no-line-keeps burst past done (barrier-no-line p burst asks)
    ]

-- In a run each half of a barrier before a line transaction of its port is complete.
pub done-before : (plan : Plan) (past : Trace) → AreSteps plan past → FollowsSoFar plan past → AreDoneBefore past
done-before plan past s f =
    (of-each-run plan (λ t. IsAccepted plan.header t × (FollowsSoFar plan t → AreDoneBefore t)) (tt, λ g x y i. let low = i.before in absurd (omega arith))
    (λ before p burst both step. (
      accepted-after plan.header burst before both.0 (step-kept plan before p burst step),
      λ g. let so_far = before-burst (obeys plan) burst before g in done-kept plan before p burst both.0 so_far (both.1 so_far) step,
    ))
    past s).1 f

-- ---- grants ------------------------------------------------------------------------------------------

all-from : {A : Type 0} → (test : A → Bool) (xs : List A) → ((k : ℕ) (x : A) → slice_get xs k ≡ Some x → test x ≡ true) → list_all test xs ≡ true
all-from test [] each = refl
all-from test (x ∷ xs) each = and_from _ _ (each 0 x refl) (all-from test xs (λ k y there. each (suc k) y there))

pair-done : (past : Trace) (x : Transaction) (k : ℕ) (b : Pair) → AreDoneBefore past → IsIssued past x → is_line x ≡ true → slice_get (pairs past x.port) k ≡ Some b
    → place_of b < x.place → is_pair_complete past b ≡ true
pair-done past x k b done i line there low =
    let halves = pairs-halves past x.port k b there in
    let r = is_barrier_of-is b.read x.port Read halves.read.barrier in
    let w = is_barrier_of-is b.write x.port Write halves.write.barrier in
    let first = le-max_left b.read.place b.write.place in
    let second = le-max_right b.read.place b.write.place in
    and_from _ _
    (done x b.read i halves.read.stands line r.barrier r.port (omega (arith, low, first)))
    (done x b.write i halves.write.stands line w.barrier w.port (omega (arith, low, second)))

-- So no barrier holds back the grant of a line transaction.
pub past-barriers : (plan : Plan) (past : Trace) (x : Transaction) → AreSteps plan past → FollowsSoFar plan past → IsIssued past x → is_line x ≡ true
    → is_past_barriers past x ≡ true
past-barriers plan past x s f i line =
    let done = done-before plan past s f in
    implied_by (x.bar == 0) _ (λ ordered.
    all-from (λ b. implies (nat_lt (place_of b) x.place) (is_pair_complete past b)) (pairs past x.port) (λ k b there.
    implied_by (nat_lt (place_of b) x.place) (is_pair_complete past b) (λ low.
    pair-done past x k b done i line there (ltb-true (place_of b) x.place low))))
