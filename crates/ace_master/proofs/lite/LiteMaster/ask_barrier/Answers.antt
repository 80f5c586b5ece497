use Rattle.std.proofs.Common.{◌≡◌, ◌+◌, ◌%◌, ◌^◌, ◌∷◌, ◌++◌, [], List, Some, None, length, sym, ap, ◌∙◌, arith}
use Rattle.ace_event.specs.declared.event.Event.{Event}
use Rattle.ace_model.specs.Transactions.{issued}
use Rattle.ace_runs.specs.Requests.{free_on_both}
use Rattle.ace_engine.proofs.Rooms.{few-events-there}
use Rattle.ace_master.specs.Lite.{port_of}
use Rattle.ace_master.specs.Issues.{barrier_ar, barrier_aw}
use Rattle.ace_master.proofs.LiteBarriers.{barrier-next, first-half, no-barrier, second-half}
use Rattle.ace_master.proofs.LiteNext.{asking-tells, next-as, put-turn}
use Rattle.ace_master.proofs.LiteOperations.{barrier-of}
use Rattle.ace_master.proofs.lite.LiteMaster.ask_barrier.Goals as goal

pub returns-clause-turn : goal.returns-clause-turn
returns-clause-turn c = λ moved plan past op a asks.
    let s = c.args.self.now in
    let p = port_of s in
    let bar = c.args.bar in
    let i = c.in-Some.id in
    let b = barrier-of op bar asks in
    let kept = a.stands.port.kept in
    let free : free_on_both plan.header past p ≡ Some i = sym (c.free_on_both.ensures plan.header past p a.stands.identifiers) ∙ c.in-Some.is in
    let d : Event = barrier_ar p i bar in
    let e : Event = barrier_aw p i bar in
    let first : c.barrier_ar-first.result ≡ d = c.barrier_ar-first.ensures ∙ ap (λ q. barrier_ar q i bar) c.port.ensures in
    let second : c.barrier_aw-second.result ≡ e = c.barrier_aw-second.ensures ∙ ap (λ q. barrier_aw q i bar) c.port-2.ensures in
    let place = c.count-place.ensures plan.header past p kept in
    let few = few-events-there plan past a.stands.port.legal in
    let later : (c.count-place.result + 1) % 2 ^ 64 ≡ length (d ∷ past) = omega (arith, place, few) in
    let x = first-half past p bar i in
    let y = second-half past p bar i in
    let reads : c.issued-self.result ≡ Some x = c.issued-self.ensures ∙ ap (issued c.count-place.result) first ∙ ap (λ n. issued n d) place in
    let writes : c.issued-self-2.result ≡ Some y = c.issued-self-2.ensures ∙ ap (issued ((c.count-place.result + 1) % 2 ^ 64)) second ∙ ap (λ n. issued n e) later in
    put-turn s _ plan past (c.barrier_ar-first.result ∷ c.barrier_aw-second.result ∷ []) (d ∷ e ∷ []) c.put.new.out a.stands
    (ap (λ (v : Event). v ∷ c.barrier_aw-second.result ∷ []) first ∙ ap (λ (v : Event). d ∷ v ∷ []) second)
    (c.put.ensures.burst ∙ ap (λ (es : List Event). es ++ c.barrier_ar-first.result ∷ c.barrier_aw-second.result ∷ []) c.requires) c.put.ensures.port (c.put.ensures.kept plan past) (c.put.ensures.identifiers plan past)
    (next-as plan past p (d ∷ e ∷ []) s.operations.items (Some x) (Some y) c.issued-self.result c.issued-self-2.result None s.unsent reads writes a.sent
    (barrier-next plan past p a.stands.port.legal s.operations.items (asking-tells s plan past op a) op a.next bar b i free))

pub returns-in_default-clause-none : goal.returns-in_default-clause-none
returns-in_default-clause-none c = λ still plan past op a asks.
    let s = c.args.self.now in
    let p = port_of s in
    no-barrier plan past p a.stands.port.legal s.operations.items (asking-tells s plan past op a) op a.next c.args.bar (barrier-of op c.args.bar asks)
    (sym (c.free_on_both.ensures plan.header past p a.stands.identifiers) ∙ c.in_default.is)
