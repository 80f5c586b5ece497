-- What is left to do in a run, event by event.
use Rattle.std.proofs.Common.{◌≡◌, ◌≢◌, ◌<◌, ◌+◌, ◌-◌, ◌==◌, ◌++◌, ◌&&◌, ℕ, zero, suc, Bool, true, false, not, nat_le, nat_lt, List, [], ◌∷◌, filter, if◌then◌else◌, map, take, length, Some, None, is_none, slice_get, inl, inr, refl, sym, ap, subst, ◌∙◌, arith}
use Rattle.std.specs.List.{list_all}
use Rattle.std.proofs.Math.ListN.{get_or}
use Rattle.std.proofs.lemmas.Bool.{and_from, and_parts, cases_Bool, cases_eq, eq-eqb, eqb-true, false_from_ne_true, ltb-true, ne_eqb, not-true}
use Rattle.std.proofs.lemmas.Bool.Decides.{nat_tests}
use Rattle.std.proofs.lemmas.List.{length-append, take_more}
use Rattle.std.proofs.lemmas.Option.{get_or_from_slice_get, slice_get-get_or, slice_get_within}
use Rattle.ace_codes.specs.Reads.{ar_kind_of}
use Rattle.ace_codes.specs.declared.kind.ArKind.TheVariants.{DvmComplete}
use Rattle.ace_codes.specs.declared.state.LineState.{LineState}
use Rattle.ace_event.specs.declared.event.Channel.{Channel}
use Rattle.ace_event.specs.declared.event.Channel.TheVariants.{Read, Write}
use Rattle.ace_event.specs.declared.event.Event.{Event}
use Rattle.ace_event.specs.declared.event.Event.TheVariants.{Ac, Ar, Cr, Op}
use Rattle.ace_event.specs.declared.event.Outcome.{Outcome}
use Rattle.ace_event.specs.declared.header.Header.{Header}
use Rattle.ace_model.specs.declared.plans.PlanOp.{PlanOp}
use Rattle.ace_model.specs.declared.snoops.Snoop.{Snoop}
use Rattle.ace_model.specs.declared.transactions.Transaction.{Transaction}
use Rattle.ace_model.specs.Accepted.{IsAccepted, least_of}
use Rattle.ace_model.specs.Grants.{ports_below}
use Rattle.ace_model.specs.Messages.{answered_syncs, dvm_completes}
use Rattle.ace_model.specs.OrderRules.{retired}
use Rattle.ace_model.specs.Plans.{Plan}
use Rattle.ace_model.specs.Progress.{transactions}
use Rattle.ace_model.specs.Shares.{system_rules}
use Rattle.ace_model.specs.Snoops.{answers, snoops_of}
use Rattle.ace_model.specs.Trace.{Trace}
use Rattle.ace_model.specs.Transactions.{is_outstanding, is_read, same_channel, some_issued}
use Rattle.ace_model.proofs.General.Options.{Some-injective}
use Rattle.ace_model.proofs.General.Ports.{each_at}
use Rattle.ace_model.proofs.Outstanding.Issued.{issued-place_in}
use Rattle.ace_model.proofs.Trace.Growth.{some_issued-found, some_issued-is}
use Rattle.ace_model.proofs.Trace.Looks.{is_read-is, is_write-is}
use Rattle.ace_runs.specs.Follows.{is_done, is_port_at_end, owes_completion}
use Rattle.ace_runs.specs.Operations.{operations_of}
use Rattle.ace_runs.proofs.Few.EachPort.{six-snoops-for-each}
use Rattle.ace_runs.proofs.Few.Queues.{answers-within}
use Rattle.ace_model.proofs.Trace.IssuedTransactions.{issuer-low}
use Rattle.ace_engine.specs.Engines.{IsLegal}
use Rattle.ace_engine.proofs.Pending.{pending-at}
use Rattle.ace_portck.specs.Pending.{is_pending, pending_of}
use Rattle.ace_fabric.specs.Left.{CountsStand, PortStands, counted_port, is_empty, is_port_done, left_after}
use Rattle.ace_fabric.specs.declared.left.PortLeft.{PortLeft}

-- ---- an event of the port ----------------------------------------------------------------------------

module _ (plan : Plan) (past : Trace) (p : ℕ) (s : PortLeft) (t : PortStands plan past p s) where
  counted-op : (k : ℕ) (res : Outcome) → PortStands plan (Op p k res ∷ past) p (left_after (Op p k res) s)
  counted-op k res =
      let own = eq-eqb p p refl in
      let o = t.operations in
      record { operations = rw own (omega (arith, o)); snoops = t.snoops }

  counted-answer : (resp : ℕ) (st : LineState) → PortStands plan (Cr p resp st ∷ past) p (left_after (Cr p resp st) s)
  counted-answer resp st =
      let own = eq-eqb p p refl in
      let n = t.snoops in
      record { operations = t.operations; snoops = rw own (omega (arith, n)) }

  counted-snoop : (addr snoop : ℕ) → IsLegal plan (Ac p addr snoop ∷ past) → PortStands plan (Ac p addr snoop ∷ past) p (left_after (Ac p addr snoop) s)
  counted-snoop addr snoop legal =
      let own = eq-eqb p p refl in
      let n = t.snoops in
      let z : Snoop = record { place = length past; addr = addr; snoop = snoop } in
      let within = answers-within plan.header past p legal.accepted.0 in
      let six = six-snoops-for-each plan past p legal.accepted.0 legal.follows.0 legal.lean.0 in
      let few = legal.right.few in
      let long = length-append (snoops_of past p) (z ∷ []) in
      record { operations = t.operations; snoops = rw own (omega (arith, n, within, six, few, long)) }

  counted-own : (e : Event) → counted_port e ≡ Some p → IsLegal plan (e ∷ past) → PortStands plan (e ∷ past) p (left_after e s)
  counted-own (Op q k res) at legal = let same : q ≡ p = Some-injective q p at in rw same (counted-op k res)
  counted-own (Cr q resp st) at legal = let same : q ≡ p = Some-injective q p at in rw same (counted-answer resp st)
  counted-own (Ac q addr snoop) at legal = let same : q ≡ p = Some-injective q p at in rw same (counted-snoop addr snoop (rw same at legal))
  counted-own e at legal = record { operations = t.operations; snoops = t.snoops }

  -- ---- an event of another -----------------------------------------------------------------------------

  off-port : (q : ℕ) → (Some q ≡ Some p → ⊥) → (p == q) ≡ false
  off-port q off = elim (cases_Bool (p == q)) [ inl t ↦ absurd (off (ap Some (sym (eqb-true p q t)))) | inr f ↦ f ]

  counted-other : (e : Event) → (counted_port e ≡ Some p → ⊥) → PortStands plan (e ∷ past) p s
  counted-other (Op q k res) off = let other = off-port q off in record { operations = rw other t.operations; snoops = t.snoops }
  counted-other (Cr q resp st) off = let other = off-port q off in record { operations = t.operations; snoops = rw other t.snoops }
  counted-other (Ac q addr snoop) off = let other = off-port q off in record { operations = t.operations; snoops = rw other t.snoops }
  counted-other e off = record { operations = t.operations; snoops = t.snoops }

-- ---- all ports ---------------------------------------------------------------------------------------

-- the port of the event has one event more
pub counted-at : (plan : Plan) (past : Trace) (e : Event) (q : ℕ) (olds news : List PortLeft) → counted_port e ≡ Some q → IsLegal plan (e ∷ past) → length news ≡ length olds
    → ((x : PortLeft) → slice_get olds q ≡ Some x → slice_get news q ≡ Some (left_after e x)) → ((k : ℕ) → k ≢ q → slice_get news k ≡ slice_get olds k)
    → CountsStand plan past olds → CountsStand plan (e ∷ past) news
counted-at plan past e q olds news at legal len own others stand = λ p k there.
    elim (cases_eq p q) [
      | inl here ↦
          let high = slice_get_within news p k there in
          let x : PortLeft = get_or olds p k in
          let old : slice_get olds p ≡ Some x = slice_get-get_or olds p k (omega (arith, high, len)) in
          let new : slice_get news p ≡ Some (left_after e x) = subst (λ (r : ℕ). slice_get olds r ≡ Some x → slice_get news r ≡ Some (left_after e x)) (sym here) (own x) old in
          let same : left_after e x ≡ k = Some-injective (left_after e x) k (sym new ∙ there) in
          subst (λ (z : PortLeft). PortStands plan (e ∷ past) p z) same (counted-own plan past p x (stand p x old) e (at ∙ ap Some (sym here)) legal)
      | inr off ↦
          counted-other plan past p k (stand p k (sym (others p off) ∙ there)) e (λ mine. off (Some-injective p q (sym mine ∙ at)))
    ]

-- no port has one
pub counted-none : (plan : Plan) (past : Trace) (e : Event) (counts : List PortLeft) → counted_port e ≡ None → CountsStand plan past counts → CountsStand plan (e ∷ past) counts
counted-none plan past e counts none stand = λ p k there. counted-other plan past p k (stand p k there) e (λ mine. let bad : None ≡ Some p = sym none ∙ mine in cc)

-- ---- what is left of a port --------------------------------------------------------------------------

pub completion-kind : ar_kind_of 14 1 0 ≡ Some DvmComplete
unfolding ar_kind_of
completion-kind = refl

-- the port owes a DVM Complete exactly where the rules of the system allow one
pub owes-test : (h : Header) (past : Trace) (p : ℕ) → is_none (least_of system_rules h past (Ar p 0 0 14 1 0 false)) ≡ owes_completion past p
unfolding ar_kind_of
owes-test h past p = elim (cases_Bool (nat_lt (dvm_completes past p) (answered_syncs past p))) [ inl t ↦ rw t refl | inr f ↦ rw f refl ]

pub end-test : (plan : Plan) (past : Trace) (p : ℕ) (s : PortLeft) (owes : Bool) → PortStands plan past p s → owes ≡ owes_completion past p
    → ((s.operations == 0) && (s.snoops == 0) && not owes) ≡ is_port_at_end plan past p
end-test plan past p s owes t is =
    let o = none-left (length (operations_of plan p)) (retired past p) s.operations t.operations in
    let n = none-waits (snoops_of past p) (answers past p) s.snoops t.snoops in
    rw (o, n, is) refl
  where
    none-left : (a b c : ℕ) → c ≡ a - b → (c == 0) ≡ nat_le a b
    none-left a b c e = grind (arith, nat_tests)

    none-waits : (xs : List Snoop) (k c : ℕ) → c ≡ length xs - k → (c == 0) ≡ is_none (slice_get xs k)
    none-waits [] k c e = grind (arith, nat_tests)
    none-waits (x ∷ xs) zero c e = grind (arith, nat_tests)
    none-waits (x ∷ xs) (suc k) c e = none-waits xs k c (omega (arith, e))

-- ---- when nothing is ---------------------------------------------------------------------------------

all-ports : (n : ℕ) (test : ℕ → Bool) → ((p : ℕ) → p < n → test p ≡ true) → list_all test (ports_below n) ≡ true
all-ports zero test each = refl
all-ports (suc n) test each = and_from _ _ (each n (omega arith)) (all-ports n test (λ p low. each p (omega (arith, low))))

empty-filter : {A : Type 0} → (test : A → Bool) (xs : List A) (k : ℕ) (x : A) → is_empty (filter test xs) ≡ true → slice_get xs k ≡ Some x → test x ≡ false
empty-filter test [] k x none at = cc
empty-filter test (y ∷ xs) zero x none at =
    let same : y ≡ x = Some-injective y x at in
    elim (cases_Bool (test y)) [
      | inl t ↦ let bad : is_empty (y ∷ filter test xs) ≡ true = rw t at none in let zero_long = eqb-true (length (y ∷ filter test xs)) 0 bad in absurd (omega (arith, zero_long))
      | inr f ↦ ap test (sym same) ∙ f
    ]
empty-filter test (y ∷ xs) (suc k) x none at =
    elim (cases_Bool (test y)) [
      | inl t ↦ let bad : is_empty (y ∷ filter test xs) ≡ true = rw t at none in let zero_long = eqb-true (length (y ∷ filter test xs)) 0 bad in absurd (omega (arith, zero_long))
      | inr f ↦ empty-filter test xs k x (rw f at none) at
    ]

-- where each port is done, no transaction is outstanding
none-outstanding : (plan : Plan) (past : Trace) → IsAccepted plan.header past → ((p : ℕ) → p < plan.header.ports → is_port_done plan past p ≡ true)
    → some_issued past (is_outstanding plan.header past) ≡ false
none-outstanding plan past a each =
    false_from_ne_true (some_issued past (is_outstanding plan.header past)) (λ some.
    let h = plan.header in
    let x = some_issued-is past (is_outstanding h past) some in
    let low = ltb-true x.0.port h.ports (issuer-low h past x.0 a x.1) in
    let place = issued-place_in past x.0 x.1 in
    let still = (and_parts (is_port_at_end plan past x.0.port) _ (each x.0.port low)).1 in
    let both = and_parts (is_empty (pending_of h past x.0.port Read)) _ still in
    elim (cases_Bool (is_read x.0.chan)) [
      | inl r ↦
          let chan = is_read-is x.0.chan r in
          let off = empty-filter (is_pending h past x.0.port Read) (transactions past) place.0 x.0 both.0 place.1 in
          let on : is_pending h past x.0.port Read x.0 ≡ true = and_from _ _ (and_from _ _ (eq-eqb x.0.port x.0.port refl) (ap (λ c. same_channel c Read) chan)) x.2 in
          let bad : true ≡ false = sym on ∙ off in cc
      | inr w ↦
          let chan = is_write-is x.0.chan w in
          let off = empty-filter (is_pending h past x.0.port Write) (transactions past) place.0 x.0 both.1 place.1 in
          let on : is_pending h past x.0.port Write x.0 ≡ true = and_from _ _ (and_from _ _ (eq-eqb x.0.port x.0.port refl) (ap (λ c. same_channel c Write) chan)) x.2 in
          let bad : true ≡ false = sym on ∙ off in cc
    ])

pub all-done : (plan : Plan) (past : Trace) → IsAccepted plan.header past → ((p : ℕ) → p < plan.header.ports → is_port_done plan past p ≡ true) → is_done plan past ≡ true
all-done plan past a each =
    and_from _ _
    (all-ports plan.header.ports (is_port_at_end plan past) (λ p low. (and_parts (is_port_at_end plan past p) _ (each p low)).0))
    (ap not (none-outstanding plan past a each))

-- a done run has each port done
empty-pending : (plan : Plan) (past : Trace) (p : ℕ) (c : Channel) → some_issued past (is_outstanding plan.header past) ≡ false → is_empty (pending_of plan.header past p c) ≡ true
empty-pending plan past p c none = by (pending_of plan.header past p c) refl
  where
    by : (xs : List Transaction) → pending_of plan.header past p c ≡ xs → is_empty xs ≡ true
    by [] is = refl
    by (x ∷ xs) is =
        let i = pending-at plan.header past p c 0 x (ap (λ ys. slice_get ys 0) is) in
        let some = some_issued-found past (is_outstanding plan.header past) x.place x i.issued.there i.is_out in
        let bad : true ≡ false = sym some ∙ none in cc

pub not-done : (plan : Plan) (past : Trace) (p : ℕ) → p < plan.header.ports → is_port_done plan past p ≡ false → is_done plan past ≡ false
not-done plan past p low off =
    false_from_ne_true (is_done plan past) (λ done.
    let parts = and_parts (list_all (is_port_at_end plan past) (ports_below plan.header.ports)) (not (some_issued past (is_outstanding plan.header past))) done in
    let end = each_at plan.header.ports (is_port_at_end plan past) p parts.0 low in
    let none = not-true (some_issued past (is_outstanding plan.header past)) parts.1 in
    let on : is_port_done plan past p ≡ true = and_from _ _ end (and_from _ _ (empty-pending plan past p Read none) (empty-pending plan past p Write none)) in
    let bad : true ≡ false = sym on ∙ off in cc)

-- ---- before the run ----------------------------------------------------------------------------------

-- one more operation is the port's, or another's
pub own-more : (ops : List PlanOp) (o : PlanOp) (p : ℕ) → length (map (λ (x : PlanOp). x.op) (filter (λ x. x.port == p) (ops ++ o ∷ [])))
    ≡ (if o.port == p then length (map (λ (x : PlanOp). x.op) (filter (λ x. x.port == p) ops)) + 1 else length (map (λ (x : PlanOp). x.op) (filter (λ x. x.port == p) ops)))
own-more [] o p = elim (cases_Bool (o.port == p)) [ inl t ↦ rw t refl | inr f ↦ rw f refl ]
own-more (x ∷ ops) o p =
    let rest = own-more ops o p in
    elim (cases_Bool (x.port == p)) [
      | inr f ↦ rw f rest
      | inl t ↦ elim (cases_Bool (o.port == p)) [
        | inl u ↦ let more = rw u at rest in rw (t, u) (omega (arith, more))
        | inr n ↦ let more = rw n at rest in rw (t, n) (omega (arith, more))
      ]
    ]

-- so many operations of the list are the port's
abbrev pub owned : List PlanOp → ℕ → ℕ
owned ops p = length (map (λ (x : PlanOp). x.op) (filter (λ x. x.port == p) ops))

pub owned-next : (ops : List PlanOp) (i p n : ℕ) (o : PlanOp) → slice_get ops i ≡ Some o → n ≡ owned (take i ops) p
    → (o.port ≡ p → n + 1 ≡ owned (take (i + 1) ops) p) × ((o.port ≡ p → ⊥) → n ≡ owned (take (i + 1) ops) p)
owned-next ops i p n o at is =
    let low = slice_get_within ops i o at in
    let more : take (i + 1) ops ≡ take i ops ++ o ∷ [] = take_more ops i o low ∙ ap (λ (x : PlanOp). take i ops ++ x ∷ []) (get_or_from_slice_get ops i o o at) in
    let whole = ap (λ (xs : List PlanOp). owned xs p) more ∙ own-more (take i ops) o p in (
      (λ t. let yes = eq-eqb o.port p t in let w = rw yes at whole in omega (arith, w, is)),
      (λ f. let no = ne_eqb o.port p f in let w = rw no at whole in omega (arith, w, is)),
    )

-- one port more
pub started-more : (plan : Plan) (counts : List PortLeft) (s : PortLeft) → PortStands plan [] (length counts) s → CountsStand plan [] counts → CountsStand plan [] (counts ++ s ∷ [])
started-more plan counts s new stand = λ p k there.
    elim (cases_eq p (length counts)) [
      | inl here ↦
          let at : slice_get (counts ++ s ∷ []) p ≡ Some s = slice_get-at_end counts p s here in
          let same : s ≡ k = Some-injective s k (sym at ∙ there) in
          subst (λ (q : ℕ). PortStands plan [] q k) (sym here) (subst (PortStands plan [] (length counts)) same new)
      | inr off ↦
          let high = slice_get_within (counts ++ s ∷ []) p k there in
          let long = length-append counts (s ∷ []) in
          stand p k (sym (slice_get-front counts (s ∷ []) p (omega (arith, high, long, off))) ∙ there)
    ]
  where
    slice_get-front : (xs ys : List PortLeft) (i : ℕ) → i < length xs → slice_get (xs ++ ys) i ≡ slice_get xs i
    slice_get-front [] ys i low = absurd (omega (arith, low))
    slice_get-front (x ∷ xs) ys zero low = refl
    slice_get-front (x ∷ xs) ys (suc i) low = slice_get-front xs ys i (omega (arith, low))

    slice_get-at_end : (xs : List PortLeft) (i : ℕ) (x : PortLeft) → i ≡ length xs → slice_get (xs ++ x ∷ []) i ≡ Some x
    slice_get-at_end [] zero x e = refl
    slice_get-at_end [] (suc i) x e = absurd (omega (arith, e))
    slice_get-at_end (y ∷ xs) zero x e = absurd (omega (arith, e))
    slice_get-at_end (y ∷ xs) (suc i) x e = slice_get-at_end xs i x (omega (arith, e))
