use Rattle.std.proofs.Common.{◌≡◌, ◌<◌, ℕ, true, false, Some, None, option_map, sym, ap, ◌∙◌, inl, inr, arith}
use Rattle.std.specs.List.{list_any}
use Rattle.std.proofs.lemmas.Bool.{cases_eq}
use Rattle.ace_event.specs.declared.header.Header.{Header}
use Rattle.ace_event.specs.declared.event.Channel.TheVariants.{Read}
use Rattle.ace_model.specs.Messages.{is_message_part}
use Rattle.ace_model.proofs.General.Options.{Some-injective}
use Rattle.ace_runs.proofs.Range.FewPorts.{few-ports}
use Rattle.ace_portck.specs.Pending.{pending_of}
use Rattle.ace_sysck.specs.declared.inboxes.Message.{Message}
use Rattle.ace_order.specs.Messages.{next_for}
use Rattle.ace_order.proofs.ForwardSteps.{none-forwards}
use Rattle.ace_order.proofs.NextMessages.{gets}
use Rattle.ace_order.proofs.StillOut.{next-pending}
use Rattle.ace_order.proofs.WithoutDvm.{no-message}
use Rattle.ace_order.proofs.order.Order.forwardable.Goals as goal
use Rattle.ace_order.proofs.order.Order.forwardable.Goals.{in-Some+else-sender-port, in_default}

pub returns-then-has-clause-none : goal.returns-then-has-clause-none
returns-then-has-clause-none c = λ _ plan past s.
    let h = plan.header in
    let p = c.args.port in
    let none = s.current.quiet p (sym c.has.ensures ∙ c.if-has.true) in
    none-forwards h past p s.forwarded (λ r n low next own.
    let out = next-pending h past r n (gets h past r n (s.forwarded r) next) s.current.legal.accepted in
    let bad : true ≡ false = sym out ∙ ap (λ q. list_any is_message_part (pending_of h past q Read)) own ∙ no-message h past p none in cc)

pub returns-then-not-has-clause-none : goal.returns-then-not-has-clause-none
returns-then-not-has-clause-none c = λ _ plan past s.
    let h = plan.header in
    let legal = s.current.legal in
    none-forwards h past c.args.port s.forwarded (λ r n low next own.
    let most = few-ports h legal.right.header legal.right.version in
    let few : r < 16 = omega (arith, most, low) in
    c.has-2.ensures c.if-not-has.true r few (s.current.senders r n few next ∙ own))

pub returns-clause-none : goal.returns-clause-none
returns-clause-none c = λ _ plan past s.
    let ports = ap (λ (h : Header). h.ports) s.current.header in
    let end = c.loop-q-test.false in
    none-forwards plan.header past c.args.port s.forwarded (λ r n low next own.
    c.loop-q.invariant plan past r n s (omega (arith, ports, end, low)) next own)

-- the port that sends the message
abbrev sender : Message → ℕ
sender m = m.first.port

pub returns-then-sender-port-clause-some : goal.returns-then-sender-port-clause-some
returns-then-sender-port-clause-some c = λ m is plan past s.
    let next : next_for plan.header past c.loop-q.q ≡ Some m = sym (c.next_message.ensures plan past s.current) ∙ is in
    let told : c.next_sender.result ≡ Some m.first.port = c.next_sender.ensures plan past s.current ∙ ap (option_map sender) next in
    let same : c.in-Some.sender ≡ m.first.port = Some-injective c.in-Some.sender m.first.port (sym c.in-Some.is ∙ told) in
    record { receiver = c.loop-q.q; next = next; own = sym same ∙ c.if-sender-port.true }

pub returns-then-sender-port-clause-none : goal.returns-then-sender-port-clause-none
returns-then-sender-port-clause-none c = λ none plan past s.
    let next : next_for plan.header past c.loop-q.q ≡ None = sym (c.next_message.ensures plan past s.current) ∙ none in
    let told : c.next_sender.result ≡ None = c.next_sender.ensures plan past s.current ∙ ap (option_map sender) next in
    let bad : Some c.in-Some.sender ≡ None = sym c.in-Some.is ∙ told in cc

pub loop-q-preserved : goal.loop-q-preserved
loop-q-preserved c = λ plan past r n s low next own.
    elim (cases_eq r c.loop-q.q) [
      | inr earlier ↦ c.loop-q.invariant plan past r n s (omega (arith, low, earlier)) next own
      | inl here ↦
          let told : c.next_sender.result ≡ Some n.first.port =
          c.next_sender.ensures plan past s.current ∙ ap (λ q. option_map sender (next_for plan.header past q)) (sym here) ∙ ap (option_map sender) next in
          elim c.match-next_sender.branch [
            | in-Some+else-sender-port w ↦ w.if-sender-port.false (Some-injective w.in-Some.sender n.first.port (sym w.in-Some.is ∙ told) ∙ own)
            | in_default w ↦ let none = w.in_default.is in cc
          ]
    ]
