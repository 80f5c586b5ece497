-- Where a transaction waits for its line, and no transaction is granted the line, the oldest that waits for it may be granted it: its port is
-- enabled by step 5. No barrier holds it back.
use Rattle.std.proofs.Common.{◌≡◌, ℕ, ◌<◌, Bool, true, false, not, ◌&&◌, ◌==◌, nat_lt, if◌then◌else◌, [], ◌∷◌, Option, Some, None, is_none, refl, sym, ap, subst, ◌∙◌, arith}
use Rattle.std.proofs.lemmas.Bool.{and_parts, and_from, or_left, eq-eqb, ltb-true, false_from_ne_true}
use Rattle.ace_event.specs.declared.event.Channel.{Channel}
use Rattle.ace_event.specs.declared.event.Event.TheVariants.{G}
use Rattle.ace_event.specs.declared.header.Header.{Header}
use Rattle.ace_model.specs.declared.transactions.Transaction.{Transaction}
use Rattle.ace_model.specs.Accepted.{IsAccepted}
use Rattle.ace_model.specs.AddressRules.{k1}
use Rattle.ace_model.specs.Grants.{granted, has_grant, is_granted}
use Rattle.ace_model.specs.OrderRules.{is_past_barriers, k35}
use Rattle.ace_model.specs.Plans.{Plan}
use Rattle.ace_model.specs.SnoopRules.{k12, may_be_granted}
use Rattle.ace_model.specs.Trace.{Trace}
use Rattle.ace_model.specs.Transactions.{is_on, is_outstanding, some_issued, takes_grant}
use Rattle.ace_model.proofs.GrantLooks.Had.{takes-line}
use Rattle.ace_model.proofs.Trace.Growth.{IsIssued, some_issued-found, some_issued-is}
use Rattle.ace_model.proofs.Trace.LineOnce.{outstanding_is}
use Rattle.ace_model.proofs.Trace.Looks.{is_on-addr}
use Rattle.ace_runs.specs.Bursts.{is_kept, may_begin, may_serve}
use Rattle.ace_runs.specs.Follows.{FollowsSoFar}
use Rattle.ace_runs.specs.LineSteps.{grant_burst, is_first_to_wait, waits}
use Rattle.ace_runs.specs.Steps.{AreSteps, is_enabled_by}
use Rattle.ace_runs.proofs.Turns.{steps-accepted}
use Rattle.ace_runs.proofs.Accepting.{three-kept}
use Rattle.ace_runs.proofs.NeverStuck.Barriers.EachIssued.{IsOldest, each-from, oldest}
use Rattle.ace_runs.proofs.NeverStuck.Updates.UpdatesOrGranted.{granted-there}
use Rattle.ace_model.proofs.Trace.IssuedTransactions.{issuer-low}
use Rattle.ace_runs.proofs.NeverStuck.Barriers.HoldNone.{past-barriers}

-- of the rules that look at a grant three can be broken
pub grant-kept : (h : Header) (past : Trace) (p : ℕ) (c : Channel) (i : ℕ) → k1 h past (G p c i) ≡ true → k12 h past (G p c i) ≡ true → k35 h past (G p c i) ≡ true
    → is_kept h past (G p c i) ≡ true
unfolding is_kept
grant-kept h past p c i one may order = three-kept (k1 h past (G p c i)) (k12 h past (G p c i)) (k35 h past (G p c i)) 1 12 35 one may order

-- ---- the grant ---------------------------------------------------------------------------------------

module _ (plan : Plan) (past : Trace) (steps : AreSteps plan past) where
  abbrev h : Header
  h = plan.header

  first-to-wait : (l : ℕ) → (o : IsOldest past (λ y. is_on y l && waits h past y)) → o.of.addr ≡ l → is_first_to_wait h past o.of ≡ true
  first-to-wait l o at =
      each-from past (λ y. not (is_on y o.of.addr && nat_lt y.place o.of.place && waits h past y && is_past_barriers past y)) (λ y i.
      ap not (false_from_ne_true (is_on y o.of.addr && nat_lt y.place o.of.place && waits h past y && is_past_barriers past y) (λ t.
      let p1 = and_parts (is_on y o.of.addr && nat_lt y.place o.of.place && waits h past y) (is_past_barriers past y) t in
      let p2 = and_parts (is_on y o.of.addr && nat_lt y.place o.of.place) (waits h past y) p1.0 in
      let p3 = and_parts (is_on y o.of.addr) (nat_lt y.place o.of.place) p2.0 in
      let low = ltb-true y.place o.of.place p3.1 in
      let high = o.none_before y i (and_from _ _ (subst (λ a. is_on y a ≡ true) at p3.0) p2.1) in
      omega (arith, low, high))))

  -- the first that waits may be granted its line
  first-granted : (x : Transaction) → FollowsSoFar plan past → IsIssued past x → waits h past x ≡ true → is_first_to_wait h past x ≡ true → granted h past x.addr ≡ None
      → is_enabled_by (5 ∷ []) plan past x.port ≡ true
  first-granted x f i w first none =
      let p1 = and_parts (takes_grant x && is_outstanding h past x) (not (has_grant past x.port x.chan x.id)) w in
      let p2 = and_parts (takes_grant x) (is_outstanding h past x) p1.0 in
      let a = steps-accepted plan past steps in
      let out = outstanding_is h past x i p2.1 in
      let g = G x.port x.chan x.id in
      let free : is_none (granted h past x.addr) ≡ true = rw none refl in
      let may : may_be_granted h past x ≡ true = and_from _ _ (and_from _ _ p2.0 p1.1) free in
      let one : k1 h past g ≡ true = and_from _ _ (issuer-low h past x a i) refl in
      let twelve : k12 h past g ≡ true = rw out may in
      let order : k35 h past g ≡ true = rw out (past-barriers plan past x steps f i (takes-line x p2.0)) in
      let this : (takes_grant x && is_first_to_wait h past x) ≡ true = and_from _ _ p2.0 first in
      let begins : may_begin h past (grant_burst h past x) ≡ true =
      ap (λ b. may_begin h past (if b then g ∷ [] else [])) this ∙ grant-kept h past x.port x.chan x.id one twelve order in
      let serves : may_serve grant_burst h past x.port ≡ true =
      some_issued-found past (λ y. (y.port == x.port) && is_outstanding h past y && may_begin h past (grant_burst h past y)) x.place x i.there
      (and_from _ _ (and_from _ _ (eq-eqb x.port x.port refl) p2.1) begins) in
      or_left (may_serve grant_burst h past x.port) _ serves

-- Where a transaction waits for a line that no transaction is granted, the port of the oldest that does is enabled by step 5.
pub waiting-moves : (plan : Plan) (past : Trace) (x : Transaction) → AreSteps plan past → FollowsSoFar plan past → IsIssued past x → waits plan.header past x ≡ true
    → granted plan.header past x.addr ≡ None → (p : ℕ) × (p < plan.header.ports) × (is_enabled_by (5 ∷ []) plan past p ≡ true)
waiting-moves plan past x s f i w none =
    let h = plan.header in
    let test : Transaction → Bool = λ y. is_on y x.addr && waits h past y in
    let p1 = and_parts (takes_grant x && is_outstanding h past x) (not (has_grant past x.port x.chan x.id)) w in
    let line = takes-line x (and_parts (takes_grant x) (is_outstanding h past x) p1.0).0 in
    let passes : test x ≡ true = and_from _ _ (and_from _ _ line (eq-eqb x.addr x.addr refl)) w in
    let o = oldest past test (some_issued-found past test x.place x i.there passes) in
    let parts = and_parts (is_on o.of x.addr) (waits h past o.of) o.passes in
    let at = is_on-addr o.of x.addr parts.0 in
    let first = first-to-wait plan past s x.addr o at in
    let free : granted h past o.of.addr ≡ None = subst (λ l. granted h past l ≡ None) (sym at) none in
    (o.of.port, ltb-true o.of.port h.ports (issuer-low h past o.of (steps-accepted plan past s) o.issued), first-granted plan past s o.of f o.issued parts.1 first free)

-- where no transaction is granted, no line is
none-granted : (h : Header) (past : Trace) (l : ℕ) → IsAccepted h past → some_issued past (is_granted h past) ≡ false → granted h past l ≡ None
none-granted h past l a none = by (granted h past l) refl
  where
    by : (o : Option Transaction) → granted h past l ≡ o → o ≡ None
    by None g = refl
    by (Some y) g =
        let there = granted-there h past l y a g in
        let some = some_issued-found past (is_granted h past) y.place y there.issued.there there.is in cc

-- In a run where no transaction is granted and some transaction waits, a port is enabled by step 5.
pub some-waiting-moves : (plan : Plan) (past : Trace) → AreSteps plan past → FollowsSoFar plan past → some_issued past (is_granted plan.header past) ≡ false
    → some_issued past (waits plan.header past) ≡ true → (p : ℕ) × (p < plan.header.ports) × (is_enabled_by (5 ∷ []) plan past p ≡ true)
some-waiting-moves plan past s f none some =
    let x = some_issued-is past (waits plan.header past) some in
    waiting-moves plan past x.0 s f x.1 x.2 (none-granted plan.header past x.0.addr (steps-accepted plan past s) none)
