use Rattle.std.proofs.Common.{◌≡◌, ◌∷◌, ◌++◌, [], List, Some, None, sym, ap, ◌∙◌, inl, inr}
use Rattle.std.proofs.lemmas.Bool.{cases_Bool}
use Rattle.ace_event.specs.declared.event.Channel.TheVariants.{Write}
use Rattle.ace_event.specs.declared.event.Event.{Event}
use Rattle.ace_event.specs.declared.event.Event.TheVariants.{Op as Retires}
use Rattle.ace_event.specs.declared.event.Outcome.TheVariants.{Ok}
use Rattle.ace_model.specs.OrderRules.{retired}
use Rattle.ace_model.specs.Trace.{is_some_and}
use Rattle.ace_model.specs.Transactions.{has_outstanding_on, issued}
use Rattle.ace_runs.specs.Closing.{retirement}
use Rattle.ace_runs.specs.Requests.{free_on}
use Rattle.ace_master.specs.Lite.{is_line_busy, port_of}
use Rattle.ace_master.specs.Issues.{aw_of}
use Rattle.ace_master.proofs.LiteNext.{asking-tells, next-as, put-turn}
use Rattle.ace_master.proofs.LiteOperations.{write-of}
use Rattle.ace_master.proofs.LiteWrites.{carried-is, data_carried, going-write, no-write, waiting-write, written-now}
use Rattle.ace_master.proofs.LiteWaits.{line-waits}
use Rattle.ace_master.proofs.lite.LiteMaster.ask_write.Goals as goal

pub returns-then-is_no_snoop_write-clause-turn : goal.returns-then-is_no_snoop_write-clause-turn
returns-then-is_no_snoop_write-clause-turn c = λ moved plan past a asks.
    let s = c.args.self.now in
    let p = port_of s in
    let k = c.args.kind in
    let l = c.args.addr in
    let i = c.in-Some.id in
    let op = c.args.op in
    let w = write-of op k l asks in
    let kept = a.stands.port.kept in
    let t = asking-tells s plan past op a in
    let first : free_on plan.header past p Write ≡ Some i = sym (c.free_on.ensures plan.header past p a.stands.identifiers) ∙ c.in-Some.is in
    let event : c.aw_of-asks.result ≡ aw_of p i k l = c.aw_of-asks.ensures ∙ ap (λ q. aw_of q i k l) c.port.ensures in
    let quiet = sym (ap (λ o. is_some_and o (has_outstanding_on plan.header past p)) w.line) ∙ sym (c.is_line_busy.ensures plan past a.stands) ∙ c.if-is_line_busy.false in
    let x = written-now past p k l i in
    let d = data_carried plan past p a.stands.port.legal s.operations.items t op a.next k l w quiet in
    let writes : c.issued-self.result ≡ Some x =
    c.issued-self.ensures ∙ ap (issued c.count.result) event ∙ ap (λ n. issued n (aw_of p i k l)) (c.count.ensures plan.header past p kept) in
    let unsent : c.data_of-self.result ≡ Some d = c.data_of-self.ensures ∙ carried-is plan past p a.stands.port.legal s.operations.items t op a.next k l w quiet in
    put-turn s _ plan past (c.aw_of-asks.result ∷ []) (aw_of p i k l ∷ []) c.put.new.out a.stands (ap (λ (e : Event). e ∷ []) event)
    (c.put.ensures.burst ∙ ap (λ (es : List Event). es ++ c.aw_of-asks.result ∷ []) c.requires) c.put.ensures.port (c.put.ensures.kept plan past) (c.put.ensures.identifiers plan past)
    (next-as plan past p (aw_of p i k l ∷ []) s.operations.items None (Some x) s.read c.issued-self.result (Some d) c.data_of-self.result a.none_read writes unsent
    (waiting-write plan past p a.stands.port.legal s.operations.items t op a.next k l w quiet i first (sym c.is_no_snoop_write.ensures ∙ c.if-is_no_snoop_write.true)))

pub returns-else-is_no_snoop_write-clause-turn : goal.returns-else-is_no_snoop_write-clause-turn
returns-else-is_no_snoop_write-clause-turn c = λ moved plan past a asks.
    let s = c.args.self.now in
    let p = port_of s in
    let k = c.args.kind in
    let l = c.args.addr in
    let i = c.in-Some.id in
    let op = c.args.op in
    let w = write-of op k l asks in
    let kept = a.stands.port.kept in
    let t = asking-tells s plan past op a in
    let first : free_on plan.header past p Write ≡ Some i = sym (c.free_on.ensures plan.header past p a.stands.identifiers) ∙ c.in-Some.is in
    let event : c.aw_of-asks.result ≡ aw_of p i k l = c.aw_of-asks.ensures ∙ ap (λ q. aw_of q i k l) c.port.ensures in
    let last : c.op-retires.result ∷ [] ≡ retirement past p Ok = sym (c.op-retires.ensures plan past a.stands) in
    let quiet = sym (ap (λ o. is_some_and o (has_outstanding_on plan.header past p)) w.line) ∙ sym (c.is_line_busy.ensures plan past a.stands) ∙ c.if-is_line_busy.false in
    let d = data_carried plan past p a.stands.port.legal s.operations.items t op a.next k l w quiet in
    let unsent : c.data_of-self.result ≡ Some d = c.data_of-self.ensures ∙ carried-is plan past p a.stands.port.legal s.operations.items t op a.next k l w quiet in
    let burst : List Event = aw_of p i k l ∷ Retires p (retired past p) Ok ∷ [] in
    put-turn s _ plan past (c.aw_of-asks.result ∷ c.op-retires.result ∷ []) burst c.put-else-is_no_snoop_write.new.out a.stands
    (ap (λ (e : Event). e ∷ c.op-retires.result ∷ []) event ∙ ap (λ (es : List Event). aw_of p i k l ∷ es) last)
    (c.put-else-is_no_snoop_write.ensures.burst ∙ ap (λ (es : List Event). es ++ c.aw_of-asks.result ∷ c.op-retires.result ∷ []) c.requires) c.put-else-is_no_snoop_write.ensures.port
    (c.put-else-is_no_snoop_write.ensures.kept plan past) (c.put-else-is_no_snoop_write.ensures.identifiers plan past)
    (next-as plan past p burst s.operations.items None None s.read s.write (Some d) c.data_of-self.result a.none_read a.none_written unsent
    (going-write plan past p a.stands.port.legal s.operations.items t op a.next k l w quiet i first (sym c.is_no_snoop_write.ensures ∙ c.if-is_no_snoop_write.false)))

pub returns-in_default-clause-none : goal.returns-in_default-clause-none
returns-in_default-clause-none c = λ still plan past a asks.
    let s = c.args.self.now in
    let p = port_of s in
    let op = c.args.op in
    let legal = a.stands.port.legal in
    let t = asking-tells s plan past op a in
    elim (cases_Bool (is_line_busy plan.header past p op)) [
      | inl busy ↦ line-waits plan past p legal s.operations.items op t a.next busy
      | inr free ↦
          let w = write-of op c.args.kind c.args.addr asks in
          let quiet = sym (ap (λ o. is_some_and o (has_outstanding_on plan.header past p)) w.line) ∙ free in
          no-write plan past p legal s.operations.items t op a.next c.args.kind c.args.addr w quiet
          (sym (c.free_on.ensures plan.header past p a.stands.identifiers) ∙ c.in_default.is)
    ]

pub returns-then-is_line_busy-clause-none : goal.returns-then-is_line_busy-clause-none
returns-then-is_line_busy-clause-none c = λ still plan past a asks.
    let s = c.args.self.now in
    line-waits plan past (port_of s) a.stands.port.legal s.operations.items c.args.op (asking-tells s plan past c.args.op a) a.next
    (sym (c.is_line_busy.ensures plan past a.stands) ∙ c.if-is_line_busy.true)
