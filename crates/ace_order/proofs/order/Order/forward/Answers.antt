use Rattle.std.proofs.Common.{◌≡◌, suc, ◌+◌, ◌≤◌, true, if◌then◌else◌, [], ◌++◌, length, sym, ap, subst, ◌∙◌, arith}
use Rattle.std.proofs.lemmas.List.{append-nil}
use Rattle.ace_event.specs.declared.header.Header.{Header}
use Rattle.ace_model.specs.Trace.{Trace}
use Rattle.ace_runs.specs.Bursts.{onto}
use Rattle.ace_engine.proofs.Heard.{onto-append}
use Rattle.ace_order.specs.Messages.{forwards_to, given_below, given_to, is_next_for}
use Rattle.ace_order.specs.Order.{IsCurrent, IsTurn}
use Rattle.ace_order.specs.declared.order.Order.{Order}
use Rattle.ace_order.proofs.FewParts.{room-for-parts}
use Rattle.ace_order.proofs.Forwarded.{same-below, same-next}
use Rattle.ace_order.proofs.ForwardSteps.{forward-step, legal-next, receiver-gets}
use Rattle.ace_order.proofs.Together.{together-forwarding}
use Rattle.ace_order.proofs.WholeAfter.{all-forwarding, kept-of-accepted, whole-after}
use Rattle.ace_order.proofs.order.Order.forward.Goals as goal
use Rattle.ace_order.proofs.order.Order.forward.Goals.{then-is_next, else-is_next}

pub returns : goal.returns
returns c = λ plan past p s d.
    let h = plan.header in
    let m = c.args.message.now in
    let ports = ap (λ (g : Header). g.ports) s.current.header in
    let high = c.loop-q-test.false in
    let most = c.loop-q.auto.q-end in
    let end : c.loop-q.q ≡ h.ports = omega (arith, ports, high, most) in
    let last = c.loop-q.invariant plan past p s d in
    let out : c.loop-q.out ≡ given_below h past m h.ports = last.0 ∙ ap (given_below h past m) end in
    let current : IsCurrent c.loop-q.self plan (onto (given_below h past m h.ports) past) = subst (λ n. IsCurrent c.loop-q.self plan (onto (given_below h past m n) past)) end last.1 in
    let g = receiver-gets plan past s.forwarded s.current.legal p m d in
    let kept = kept-of-accepted h (given_below h past m h.ports) past current.legal.accepted in
    subst (IsTurn c.loop-q.self plan past p) (sym out) (record {
      step = forward-step plan past s.forwarded s.current.legal p m d current.legal;
      stands = record {
        current = current;
        answered = together-forwarding (given_below h past m h.ports) past (all-forwarding h past m h.ports) s.answered;
        forwarded = whole-after h past s.forwarded d.receiver m g h.ports s.current.legal.accepted kept;
      };
    })

pub loop-q-init : goal.loop-q-init
loop-q-init c = λ plan past p s d. (c.requires, s.current)

pub loop-q-preserved : goal.loop-q-preserved
loop-q-preserved c = λ plan past p s d.
    let h = plan.header in
    let q = c.loop-q.q in
    let m = c.args.message.now in
    let t : Trace = onto (given_below h past m q) past in
    let before = c.loop-q.invariant plan past p s d in
    let asked : c.is_next.result ≡ is_next_for h past m q = c.is_next.ensures plan t before.1 ∙ same-next h t past m q (same-below h past m q q (omega arith)) in
    let more : q + 1 ≡ suc q = omega arith in
    let one : given_below h past m (q + 1) ≡ given_below h past m q ++ given_to h past m q = ap (given_below h past m) more in
    elim c.if-is_next.branch [
      | else-is_next w ↦
          let nothing : given_below h past m (q + 1) ≡ given_below h past m q =
          one ∙ ap (λ b. given_below h past m q ++ (if b then forwards_to q m else [])) (sym asked ∙ w.if-is_next.false) ∙ append-nil (given_below h past m q) in (
            w.out-is ∙ before.0 ∙ sym nothing,
            subst (λ l. IsCurrent c.if-is_next.self plan (onto l past)) (sym nothing) (subst (λ (v : Order). IsCurrent v plan t) (sym w.self-is) before.1),
          )
      | then-is_next w ↦
          let next : is_next_for h past m q ≡ true = sym asked ∙ w.if-is_next.true in
          let given : given_below h past m (q + 1) ≡ given_below h past m q ++ forwards_to q m =
          one ∙ ap (λ b. given_below h past m q ++ (if b then forwards_to q m else [])) next in
          let ports = ap (λ (g : Header). g.ports) s.current.header in
          let low = c.loop-q-test.true in
          let few = room-for-parts h past m s.current.legal.right.header s.current.legal.right.version q (omega (arith, ports, low)) next in
          let same = ap length before.0 in
          let room : length c.loop-q.out ≤ 14 = omega (arith, few, same) in
          let g = receiver-gets plan past s.forwarded s.current.legal p m d in
          let legal = legal-next plan past s.forwarded d.receiver m g q next before.1.legal in
          let current = w.forward_to.ensures.current plan t before.1 legal in
          let joined : onto (given_below h past m (q + 1)) past ≡ onto (forwards_to q m) t = ap (λ l. onto l past) given ∙ onto-append (given_below h past m q) (forwards_to q m) past in (
            w.out-is ∙ w.forward_to.ensures.burst room ∙ ap (λ l. l ++ forwards_to q m) before.0 ∙ sym given,
            subst (IsCurrent c.if-is_next.self plan) (sym joined) (subst (λ (v : Order). IsCurrent v plan (onto (forwards_to q m) t)) (sym w.self-is) current),
          )
    ]
