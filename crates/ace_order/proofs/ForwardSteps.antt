-- The burst that gives a message to each port for which it is the next is a step 11. Where no message of the port is the next for some port,
-- there is no such step.
use Rattle.std.proofs.Common.{◌≡◌, ℕ, zero, suc, ◌+◌, ◌<◌, ◌≤◌, Bool, true, false, not, ◌&&◌, ◌==◌, nat_lt, if◌then◌else◌, List, [], ◌∷◌, ◌++◌, filter, length, map, Some, None, slice_get, refl, sym, ap, subst, ◌∙◌, arith}
use Rattle.std.specs.List.{list_all, list_any}
use Rattle.std.specs.Option.{option_to_list}
use Rattle.std.proofs.lemmas.Bool.{and_from, and_parts, eq-eqb, eqb-true, false_from_ne_true, le-leb, ltb-true}
use Rattle.ace_event.specs.declared.event.Event.{Event}
use Rattle.ace_event.specs.declared.header.Header.{Header}
use Rattle.ace_model.specs.declared.transactions.Transaction.{Transaction}
use Rattle.ace_model.specs.Grants.{ports_below}
use Rattle.ace_model.specs.Messages.{forwarded, has_part, has_second, is_message_part, is_other_ace, next_part, parts_among, parts_for}
use Rattle.ace_model.specs.Plans.{Plan}
use Rattle.ace_model.specs.Trace.{Trace, is_some_and}
use Rattle.ace_model.specs.Transactions.{is_ace}
use Rattle.ace_model.proofs.General.Options.{is_some_and-is}
use Rattle.ace_model.proofs.Trace.Growth.{IsIssued, some_issued-found, some_issued-is}
use Rattle.ace_runs.specs.Bursts.{is_kept, may_begin, onto}
use Rattle.ace_runs.specs.OrderSteps.{forwarded_to, forwards, gets_message, is_part_of, may_forward, message_of, parts_missing}
use Rattle.ace_runs.specs.SameEvents.{same_burst}
use Rattle.ace_runs.specs.Segments.{is_at_port}
use Rattle.ace_runs.specs.Steps.{is_sound, is_step_by}
use Rattle.ace_runs.proofs.NeverStuck.Forwarding.NextMessage.{same-message}
use Rattle.ace_runs.proofs.NeverStuck.Steps.SameBursts.{burst-self}
use Rattle.ace_runs.proofs.NeverStuck.Transactions.SnoopsMove.{any-port}
use Rattle.ace_engine.specs.Engines.{IsLegal}
use Rattle.ace_sysck.specs.declared.inboxes.Message.{Message}
use Rattle.ace_sysck.specs.Inboxes.{message_with, next_message}
use Rattle.ace_order.specs.Messages.{IsForwardedWhole, forwarding, forwards_to, given_below, given_to, is_next_for, next_for, parts_of}
use Rattle.ace_order.specs.Order.{IsForwardable}
use Rattle.ace_order.proofs.ByPorts.{all-given, below-by-port}
use Rattle.ace_order.proofs.FewParts.{few-parts}
use Rattle.ace_order.proofs.FourSteps.{forwards-message}
use Rattle.ace_order.proofs.Forwarded.{legal-parts, parts-kept, same-below}
use Rattle.ace_order.proofs.GivenParts.{gets-too, given-as}
use Rattle.ace_order.proofs.NextMessages.{Gets, gets, last-issued, one-port, parts-next}
use Rattle.ace_order.proofs.WholeAfter.{kept-of-accepted}

-- ---- lists of ports ----------------------------------------------------------------------------------

each-below : (n : ℕ) (test : ℕ → Bool) → ((r : ℕ) → r < n → test r ≡ true) → list_all test (ports_below n) ≡ true
each-below zero test all = refl
each-below (suc n) test all = and_from _ _ (all n (omega arith)) (each-below n test (λ r low. all r (omega (arith, low))))

none-below : (n : ℕ) (test : ℕ → Bool) → ((r : ℕ) → r < n → test r ≡ false) → list_any test (ports_below n) ≡ false
none-below zero test none = refl
none-below (suc n) test none = let here = none n (omega arith) in let rest = none-below n test (λ r low. none r (omega (arith, low))) in rw (here, rest) refl

-- ---- the step ----------------------------------------------------------------------------------------

some-event : (test : Event → Bool) (burst : List Event) (e : Event) (rest : List Event) → filter test burst ≡ e ∷ rest → 1 ≤ length burst
some-event test [] e rest is = cc
some-event test (d ∷ burst) e rest is = omega arith

module _ (plan : Plan) (past : Trace) (whole : (r : ℕ) → IsForwardedWhole past r) (legal : IsLegal plan past) (p : ℕ) (m : Message) (d : IsForwardable plan.header past p m) where
  pub receiver-gets : Gets plan.header past d.receiver m
  receiver-gets = gets plan.header past d.receiver m (whole d.receiver) d.next

  low : d.receiver < plan.header.ports
  low = ltb-true d.receiver plan.header.ports (and_parts (nat_lt d.receiver plan.header.ports) _ receiver-gets.ace).0

  abbrev last : Transaction
  last = receiver-gets.message.last

  next : is_next_for plan.header past m d.receiver ≡ true
  next = ap (λ o. is_some_and o (λ n. n.first.place == m.first.place)) d.next ∙ eq-eqb m.first.place m.first.place refl

  part : is_part_of p receiver-gets.message.last ≡ true
  part = and_from _ _ receiver-gets.message.begins.part (eq-eqb last.port p (sym (one-port plan.header past d.receiver m receiver-gets) ∙ d.own))

  begins : may_begin plan.header past (forwarded_to plan.header past receiver-gets.message.last d.receiver) ≡ true
  begins =
      let h = plan.header in
      let all = parts-next h past d.receiver m receiver-gets in
      let kept = parts-kept h d.receiver (parts_of m) past all.0 receiver-gets.ace legal.accepted all.1 in
      let is : forwarded_to h past receiver-gets.message.last d.receiver ≡ forwards_to d.receiver m =
      given-as h past whole d.receiver m receiver-gets d.receiver ∙ ap (λ b. if b then forwards_to d.receiver m else []) next in
      ap (may_begin h past) is ∙ (and_parts (is_kept h past (forwarding d.receiver m.first)) _ kept).0

  enabled : may_forward plan.header past p ≡ true
  enabled =
      let h = plan.header in
      let some = any-port h.ports (λ r. may_begin h past (forwarded_to h past last r)) d.receiver low begins in
      some_issued-found past (λ x. is_part_of p x && list_any (λ r. may_begin h past (forwarded_to h past x r)) (ports_below h.ports)) last.place last
      (last-issued h past d.receiver m receiver-gets).there (and_from _ _ part some)

  abbrev burst : List Event
  burst = given_below plan.header past m plan.header.ports

  gives : forwards plan.header past p (given_below plan.header past m plan.header.ports) ≡ true
  gives =
      let h = plan.header in
      let each : list_all (gets_message h past receiver-gets.message.last (given_below h past m h.ports)) (ports_below h.ports) ≡ true =
      each-below h.ports (gets_message h past last burst) (λ r under.
      ap (λ l. same_burst l (forwarded_to h past last r)) (all-given h past m h.ports r under)
      ∙ ap (same_burst (given_to h past m r)) (given-as h past whole d.receiver m receiver-gets r) ∙ burst-self (given_to h past m r)) in
      and_from _ _ (below-by-port h past m h.ports)
      (some_issued-found past (λ x. is_part_of p x && list_all (gets_message h past x burst) (ports_below h.ports)) last.place last
      (last-issued h past d.receiver m receiver-gets).there (and_from _ _ part each))

  pub forward-step : IsLegal plan (onto (given_below plan.header past m plan.header.ports) past)
      → is_step_by (10 ∷ 11 ∷ 12 ∷ 13 ∷ []) plan past p (given_below plan.header past m plan.header.ports) ≡ true
  forward-step after =
      let h = plan.header in
      let had : filter (is_at_port d.receiver) (given_below h past m h.ports) ≡ forwards_to d.receiver m =
      all-given h past m h.ports d.receiver low ∙ ap (λ b. if b then forwards_to d.receiver m else []) next in
      let some = some-event (is_at_port d.receiver) burst (forwarding d.receiver m.first) (map (forwarding d.receiver) (option_to_list m.second)) had in
      let few = few-parts h past m legal.right.header legal.right.version in
      let sound : is_sound h past (given_below h past m h.ports) ≡ true =
      and_from _ _ (and_from _ _ (le-leb 1 (length burst) some) (le-leb (length burst) 16 few)) (kept-of-accepted h burst past after.accepted) in
      forwards-message plan past p burst sound (and_from _ _ enabled gives)

-- ---- one port after the other ------------------------------------------------------------------------

-- a port for which the message is the next may have it, once those below have had theirs
pub legal-next : (plan : Plan) (past : Trace) → ((r : ℕ) → IsForwardedWhole past r) → (q : ℕ) (m : Message) → Gets plan.header past q m → (n : ℕ)
    → is_next_for plan.header past m n ≡ true → IsLegal plan (onto (given_below plan.header past m n) past)
    → IsLegal plan (onto (forwards_to n m) (onto (given_below plan.header past m n) past))
legal-next plan past whole q m g n next legal =
    let h = plan.header in
    let t = onto (given_below h past m n) past in
    let f = gets-too h past whole q m g n next in
    let all = parts-next h past n m f in
    let same = same-below h past m n n (omega arith) in
    let here : parts_for (onto (given_below plan.header past m n) past) n ≡ (parts_among (forwarded (onto (given_below plan.header past m n) past) n) ++ parts_of m) ++ all.0 =
    same.parts ∙ all.1 ∙ ap (λ l. (parts_among l ++ parts_of m) ++ all.0) (sym same.done) in
    legal-parts plan n (parts_of m) t legal (parts-kept h n (parts_of m) t all.0 f.ace legal.accepted here)

-- ---- whether there is one ----------------------------------------------------------------------------

-- what a port gets of a message begins with its next part
begins-next : (h : Header) (past : Trace) (x : Transaction) (r : ℕ) → may_begin h past (forwarded_to h past x r) ≡ true
    → (is_other_ace h x.port r && is_some_and (next_part past r) (has_part (message_of past x))) ≡ true
begins-next h past x r begins = by (is_other_ace h x.port r && is_some_and (next_part past r) (has_part (message_of past x))) refl
  where
    by : (b : Bool) → (is_other_ace h x.port r && is_some_and (next_part past r) (has_part (message_of past x))) ≡ b
        → (is_other_ace h x.port r && is_some_and (next_part past r) (has_part (message_of past x))) ≡ true
    by true is = is
    by false is = let bad : false ≡ true = sym (ap (λ b. may_begin h past (if b then map (forwarding r) (parts_missing past x r) else [])) is) ∙ begins in cc

pub none-forwards : (h : Header) (past : Trace) (p : ℕ) → ((r : ℕ) → IsForwardedWhole past r)
    → ((r : ℕ) (n : Message) → r < h.ports → next_for h past r ≡ Some n → n.first.port ≡ p → ⊥) → may_forward h past p ≡ false
none-forwards h past p whole none =
    false_from_ne_true (may_forward h past p) (λ may.
    let x = some_issued-is past (λ x. is_part_of p x && list_any (λ r. may_begin h past (forwarded_to h past x r)) (ports_below h.ports)) may in
    let both = and_parts (is_part_of p x.0) (list_any (λ r. may_begin h past (forwarded_to h past x.0 r)) (ports_below h.ports)) x.2 in
    let nowhere = none-below h.ports (λ r. may_begin h past (forwarded_to h past x.0 r)) (λ r low.
    false_from_ne_true (may_begin h past (forwarded_to h past x.0 r)) (λ begins. at-port x.0 x.1 both.0 r low begins)) in
    let bad : true ≡ false = sym both.1 ∙ nowhere in cc)
  where
    at-port : (x : Transaction) → IsIssued past x → is_part_of p x ≡ true → (r : ℕ) → r < h.ports → may_begin h past (forwarded_to h past x r) ≡ true → ⊥
    at-port x i of r low begins =
        let part = and_parts (is_message_part x) (x.port == p) of in
        let c = and_parts (is_other_ace h x.port r) (is_some_and (next_part past r) (has_part (message_of past x))) (begins-next h past x r begins) in
        let ace = (and_parts (is_ace h r) (not (r == x.port)) c.0).0 in
        let y = is_some_and-is (next_part past r) (has_part (message_of past x)) c.1 in
        let second = slice_get (parts_for past r) (length (parts_among (forwarded past r)) + 1) in
        let n : Message = record { first = y.0; second = if has_second y.0.addr then second else None } in
        let next : next_for h past r ≡ Some n = ap (λ b. if b then next_message past r else None) ace ∙ ap (λ o. message_with o second) y.1 in
        let f = gets h past r n (whole r) next in
        let same : x ≡ f.message.last =
        same-message f.message.later f.message.event f.message.point r f.message.last y.0 f.message.issues f.message.begins x (subst (λ t. IsIssued t x) (sym f.message.is) i) part.0
        (subst (λ t. has_part (message_of t x) y.0 ≡ true) (sym f.message.is) y.2) in
        none r n low next (one-port h past r n f ∙ ap (λ (v : Transaction). v.port) (sym same) ∙ eqb-true x.port p part.1)
