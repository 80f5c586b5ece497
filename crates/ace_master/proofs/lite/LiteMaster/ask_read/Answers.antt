use Rattle.std.proofs.Common.{◌≡◌, false, ◌∷◌, ◌++◌, [], List, Some, None, sym, ap, ◌∙◌, inl, inr}
use Rattle.std.proofs.lemmas.Bool.{cases_Bool}
use Rattle.ace_event.specs.declared.event.Channel.TheVariants.{Read}
use Rattle.ace_event.specs.declared.event.Event.{Event}
use Rattle.ace_model.specs.Trace.{is_some_and}
use Rattle.ace_model.specs.Transactions.{has_outstanding_on, issued}
use Rattle.ace_runs.specs.Requests.{free_on}
use Rattle.ace_master.specs.Lite.{is_line_busy, port_of}
use Rattle.ace_master.specs.Issues.{ar_of}
use Rattle.ace_master.proofs.LiteNext.{asking-tells, next-as, put-turn}
use Rattle.ace_master.proofs.LiteOperations.{read-of}
use Rattle.ace_master.proofs.LiteReads.{no-read, read-next, read-now}
use Rattle.ace_master.proofs.LiteWaits.{line-waits}
use Rattle.ace_master.proofs.lite.LiteMaster.ask_read.Goals as goal

pub returns-clause-turn : goal.returns-clause-turn
returns-clause-turn c = λ moved plan past a asks.
    let s = c.args.self.now in
    let p = port_of s in
    let op = c.args.op in
    let k = c.args.kind in
    let l = c.args.addr in
    let i = c.in-Some.id in
    let r = read-of op k l asks in
    let kept = a.stands.port.kept in
    let first : free_on plan.header past p Read ≡ Some i = sym (c.free_on.ensures plan.header past p a.stands.identifiers) ∙ c.in-Some.is in
    let event : c.ar_of-asks.result ≡ ar_of p i k l false = c.ar_of-asks.ensures ∙ ap (λ q. ar_of q i k l false) c.port.ensures in
    let quiet = sym (ap (λ o. is_some_and o (has_outstanding_on plan.header past p)) r.line) ∙ sym (c.is_line_busy.ensures plan past a.stands) ∙ c.if-is_line_busy.false in
    let reads : c.issued-self.result ≡ Some (read-now past p k l i) =
    c.issued-self.ensures ∙ ap (issued c.count.result) event ∙ ap (λ n. issued n (ar_of p i k l false)) (c.count.ensures plan.header past p kept) in
    put-turn s _ plan past (c.ar_of-asks.result ∷ []) (ar_of p i k l false ∷ []) c.put.new.out a.stands (ap (λ (e : Event). e ∷ []) event)
    (c.put.ensures.burst ∙ ap (λ (es : List Event). es ++ c.ar_of-asks.result ∷ []) c.requires) c.put.ensures.port (c.put.ensures.kept plan past) (c.put.ensures.identifiers plan past)
    (next-as plan past p (ar_of p i k l false ∷ []) s.operations.items (Some (read-now past p k l i)) None c.issued-self.result s.write None s.unsent reads a.none_written a.sent
    (read-next plan past p a.stands.port.legal s.operations.items (asking-tells s plan past op a) op a.next k l r quiet i first))

pub returns-in_default-clause-none : goal.returns-in_default-clause-none
returns-in_default-clause-none c = λ still plan past a asks.
    let s = c.args.self.now in
    let p = port_of s in
    let op = c.args.op in
    let legal = a.stands.port.legal in
    let t = asking-tells s plan past op a in
    elim (cases_Bool (is_line_busy plan.header past p op)) [
      | inl busy ↦ line-waits plan past p legal s.operations.items op t a.next busy
      | inr free ↦
          let r = read-of op c.args.kind c.args.addr asks in
          let quiet = sym (ap (λ o. is_some_and o (has_outstanding_on plan.header past p)) r.line) ∙ free in
          no-read plan past p legal s.operations.items t op a.next c.args.kind c.args.addr r quiet
          (sym (c.free_on.ensures plan.header past p a.stands.identifiers) ∙ c.in_default.is)
    ]

pub returns-then-is_line_busy-clause-none : goal.returns-then-is_line_busy-clause-none
returns-then-is_line_busy-clause-none c = λ still plan past a asks.
    let s = c.args.self.now in
    line-waits plan past (port_of s) a.stands.port.legal s.operations.items c.args.op (asking-tells s plan past c.args.op a) a.next
    (sym (c.is_line_busy.ensures plan past a.stands) ∙ c.if-is_line_busy.true)
