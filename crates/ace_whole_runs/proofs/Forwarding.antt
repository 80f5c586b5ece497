-- Step 11: a DVM message that is the next for some port has an AC of each part to each port for which it is the next. Step 13: the AC that completes a
-- Sync is a step where it breaks no rule.
use Rattle.std.proofs.Common.{◌≡◌, ℕ, zero, suc, true, false, ◌==◌, nat_lt, if◌then◌else◌, [], ◌∷◌, length, None, refl, sym, ap, subst, ◌∙◌, inl, inr}
use Rattle.std.specs.List.{list_any}
use Rattle.std.proofs.lemmas.Bool.{and_parts, cases_Bool, eq-eqb, eqb-true}
use Rattle.std.proofs.lemmas.List.{append-nil}
use Rattle.ace_event.specs.declared.event.Event.{Event}
use Rattle.ace_event.specs.declared.event.Event.TheVariants.{Ac, Mem}
use Rattle.ace_event.specs.declared.header.Header.{Header}
use Rattle.ace_model.specs.Accepted.{IsAccepted}
use Rattle.ace_model.specs.AddressRules.{k1}
use Rattle.ace_model.specs.Grants.{ports_below}
use Rattle.ace_model.specs.Messages.{add_forwarded, forwarded, parts_among}
use Rattle.ace_model.specs.Plans.{Plan}
use Rattle.ace_model.specs.Snoops.{snoop_at}
use Rattle.ace_model.specs.Trace.{Trace, is_some_and}
use Rattle.ace_model.specs.Transactions.{is_ace}
use Rattle.ace_model.proofs.General.Options.{is_some_and-is}
use Rattle.ace_model.proofs.General.Ports.{none_at}
use Rattle.ace_model.proofs.Rules.Keeps.{accepted_keeps}
use Rattle.ace_runs.specs.Bursts.{onto}
use Rattle.ace_runs.specs.OrderSteps.{may_forward, may_give_completion}
use Rattle.ace_runs.specs.Steps.{AreSteps}
use Rattle.ace_runs.proofs.NeverStuck.Forwarding.Bursts.{is_forwarding}
use Rattle.ace_runs.proofs.NeverStuck.Forwarding.Whole.{messages-whole}
use Rattle.ace_runs.proofs.NeverStuck.Steps.Lists.{all-implied}
use Rattle.ace_engine.specs.Engines.{IsLegal, Order, is_of_interconnect, numbers_of}
use Rattle.ace_engine.proofs.Heard.{onto-append}
use Rattle.ace_sysck.specs.declared.inboxes.Message.{Message}
use Rattle.ace_order.specs.Messages.{IsForwardedWhole, forwards_to, given_below, given_to, is_next_for, next_for}
use Rattle.ace_order.specs.Order.{IsForwardable}
use Rattle.ace_order.proofs.ForwardSteps.{forward-step, legal-next, none-forwards, receiver-gets}
use Rattle.ace_order.proofs.NextMessages.{Gets}
use Rattle.ace_order.proofs.SyncSteps.{completion, completion-step}
use Rattle.ace_order.proofs.WholeAfter.{all-forwarding}
use Rattle.ace_whole_runs.proofs.Interconnect.{GivesStep}
use Rattle.ace_whole_runs.proofs.Snoops.{some-port}

-- ---- messages are forwarded whole ----------------------------------------------------------------------

-- only ACE ports are snooped
not-snooped : (h : Header) (past : Trace) (e : Event) (q : ℕ) → is_ace h q ≡ false → IsAccepted h (e ∷ past) → snoop_at (length past) e q ≡ None
not-snooped h past (Ac r addr snoop) q lite a =
    elim (cases_Bool (q == r)) [
      | inr other ↦ rw other refl
      | inl same ↦
          let one : k1 h past (Ac r addr snoop) ≡ true = (accepted_keeps h past (Ac r addr snoop) a).rule_1 in
          let ace = (and_parts (nat_lt r h.ports) (is_ace h r) one).1 in
          let bad : false ≡ true = sym lite ∙ subst (λ p. is_ace h p ≡ true) (sym (eqb-true q r same)) ace in cc
    ]
not-snooped h past e q lite a = refl

none-forwarded : (h : Header) (past : Trace) (q : ℕ) → is_ace h q ≡ false → IsAccepted h past → forwarded past q ≡ []
none-forwarded h [] q lite a = refl
none-forwarded h (e ∷ past) q lite a =
    ap (add_forwarded past q (forwarded past q)) (not-snooped h past e q lite a) ∙ none-forwarded h past q lite a.0

forwarded-whole : (plan : Plan) (past : Trace) → AreSteps plan past → IsAccepted plan.header past → (q : ℕ) → IsForwardedWhole past q
forwarded-whole plan past steps a q =
    elim (cases_Bool (is_ace plan.header q)) [
      | inl ace ↦ messages-whole plan past steps q (and_parts (nat_lt q plan.header.ports) _ ace).0
      | inr lite ↦ (past, [], append-nil past, ap parts_among (none-forwarded plan.header past q lite a))
    ]

-- ---- the burst -----------------------------------------------------------------------------------------

forwarding-own : (e : Event) → is_forwarding e ≡ true → is_of_interconnect e ≡ true
forwarding-own (Ac p addr snoop) f = refl
forwarding-own (Mem addr line) f = refl
forwarding-own e f = cc

module _ (plan : Plan) (past : Trace) (legal : IsLegal plan past) (whole : (q : ℕ) → IsForwardedWhole past q) where
  -- the ports below a number may have the message one after the other
  legal-below : (q : ℕ) (m : Message) → Gets plan.header past q m → (n : ℕ) → IsLegal plan (onto (given_below plan.header past m n) past)
  legal-below q m g zero = legal
  legal-below q m g (suc n) =
      let h = plan.header in
      let before = legal-below q m g n in
      let t = onto (given_below h past m n) past in
      subst (IsLegal plan) (sym (onto-append (given_below h past m n) (given_to h past m n) past))
      (elim (cases_Bool (is_next_for h past m n)) [
        | inl next ↦ subst (λ b. IsLegal plan (onto (if b then forwards_to n m else []) t)) (sym next) (legal-next plan past whole q m g n next before)
        | inr none ↦ subst (λ b. IsLegal plan (onto (if b then forwards_to n m else []) t)) (sym none) before
      ])

  message-step : (p : ℕ) (m : Message) → IsForwardable plan.header past p m → GivesStep (numbers_of Order) plan past p
  message-step p m d =
      let h = plan.header in
      let burst = given_below h past m h.ports in
      let g = receiver-gets plan past whole legal p m d in
      record {
        burst = burst;
        step = forward-step plan past whole legal p m d (legal-below d.receiver m g h.ports);
        own = all-implied is_forwarding is_of_interconnect forwarding-own burst (all-forwarding h past m h.ports);
      }

  -- the next message for some port is one of this port
  forwardable : (p : ℕ) → may_forward plan.header past p ≡ true → (m : Message) × IsForwardable plan.header past p m
  forwardable p may =
      let h = plan.header in
      let test = λ (r : ℕ). is_some_and (next_for h past r) (λ m. m.first.port == p) in
      elim (cases_Bool (list_any test (ports_below h.ports))) [
        | inl some ↦
            let r = some-port h.ports test some in
            let m = is_some_and-is (next_for h past r.0) (λ m. m.first.port == p) r.1 in
            (m.0, record { receiver = r.0; next = m.1; own = eqb-true m.0.first.port p m.2 })
        | inr none ↦
            let no : may_forward h past p ≡ false = none-forwards h past p whole (λ r m low next own.
            let off : is_some_and (next_for h past r) (λ m. m.first.port == p) ≡ false = none_at h.ports test r none low in
            let on : is_some_and (next_for h past r) (λ m. m.first.port == p) ≡ true =
            ap (λ o. is_some_and o (λ m. m.first.port == p)) next ∙ eq-eqb m.first.port p own in
            let bad : false ≡ true = sym off ∙ on in cc) in
            let bad : false ≡ true = sym no ∙ may in cc
      ]

pub gives-message : (plan : Plan) (past : Trace) (p : ℕ) → AreSteps plan past → IsLegal plan past
    → may_forward plan.header past p ≡ true → GivesStep (numbers_of Order) plan past p
gives-message plan past p steps legal may =
    let whole = forwarded-whole plan past steps legal.accepted in
    let m = forwardable plan past legal whole p may in
    message-step plan past legal whole p m.0 m.1

-- ---- the completion of a Sync ---------------------------------------------------------------------------

pub gives-completion : (plan : Plan) (past : Trace) (p : ℕ) → IsLegal plan past
    → may_give_completion plan.header past p ≡ true → GivesStep (numbers_of Order) plan past p
gives-completion plan past p legal may = record { burst = completion p ∷ []; step = completion-step plan past legal p may; own = refl }
