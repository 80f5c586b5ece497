use Rattle.std.proofs.Common.{◌≡◌, false, sym, ap, subst, ◌∙◌}
use Rattle.ace_runs.specs.MasterSteps.{may_acknowledge, may_go_on, may_send}
use Rattle.ace_runs.specs.Operations.{next_operation}
use Rattle.ace_master.specs.declared.ace_port.AcePort.{AcePort}
use Rattle.ace_master.specs.AcePort.{AcePortStands}
use Rattle.ace_master.proofs.AcePorts.Turned.{none-enabled, turned-stands, turned-step}
use Rattle.ace_master.proofs.ace.AceMasterEngine.turn.Goals as goal

pub returns-then-answer-clause-step : goal.returns-then-answer-clause-step
returns-then-answer-clause-step g c = λ done plan past s.
    turned-step c.answer.new.self plan past c.answer.new.out c.args.self.now.at.port c.args._port c.requires.serves c.answer.ensures.port
    (c.answer.ensures.turn c.if-answer.true plan past s.port s.picks)

pub returns-then-answer-clause-stands : goal.returns-then-answer-clause-stands
returns-then-answer-clause-stands g c = λ done plan past s.
    turned-stands c.answer.new.self c.args.self.now.at plan past c.answer.new.out (g.P.Policy.rows c.answer.new.policy) (g.P.Policy.rows c.args.self.now.policy) c.answer.ensures.same_rows s
    (c.answer.ensures.turn c.if-answer.true plan past s.port s.picks)

pub returns-then-send-clause-step : goal.returns-then-send-clause-step
returns-then-send-clause-step g c = λ done plan past s.
    let answered = (c.answer.ensures.unchanged c.if-answer.false).0 in
    turned-step c.send.new.self plan past c.send.new.out c.args.self.now.at.port c.args._port c.requires.serves (c.send.ensures.port ∙ ap (λ (m : AcePort). m.port) answered)
    (c.send.ensures.turn c.if-send.true plan past (subst (λ (m : AcePort). AcePortStands m plan past) (sym answered) s.port))

pub returns-then-send-clause-stands : goal.returns-then-send-clause-stands
returns-then-send-clause-stands g c = λ done plan past s.
    let answered = (c.answer.ensures.unchanged c.if-answer.false).0 in
    turned-stands c.send.new.self c.args.self.now.at plan past c.send.new.out (g.P.Policy.rows c.answer.new.policy) (g.P.Policy.rows c.args.self.now.policy) c.answer.ensures.same_rows s
    (c.send.ensures.turn c.if-send.true plan past (subst (λ (m : AcePort). AcePortStands m plan past) (sym answered) s.port))

pub returns-then-acknowledge-clause-step : goal.returns-then-acknowledge-clause-step
returns-then-acknowledge-clause-step g c = λ done plan past s.
    let same = (c.send.ensures.unchanged c.if-send.false).0 ∙ (c.answer.ensures.unchanged c.if-answer.false).0 in
    turned-step c.acknowledge.new.self plan past c.acknowledge.new.out c.args.self.now.at.port c.args._port c.requires.serves (c.acknowledge.ensures.port ∙ ap (λ (m : AcePort). m.port) same)
    (c.acknowledge.ensures.turn c.if-acknowledge.true plan past (subst (λ (m : AcePort). AcePortStands m plan past) (sym same) s.port))

pub returns-then-acknowledge-clause-stands : goal.returns-then-acknowledge-clause-stands
returns-then-acknowledge-clause-stands g c = λ done plan past s.
    let same = (c.send.ensures.unchanged c.if-send.false).0 ∙ (c.answer.ensures.unchanged c.if-answer.false).0 in
    turned-stands c.acknowledge.new.self c.args.self.now.at plan past c.acknowledge.new.out (g.P.Policy.rows c.answer.new.policy) (g.P.Policy.rows c.args.self.now.policy) c.answer.ensures.same_rows s
    (c.acknowledge.ensures.turn c.if-acknowledge.true plan past (subst (λ (m : AcePort). AcePortStands m plan past) (sym same) s.port))

pub returns-clause-step : goal.returns-clause-step
returns-clause-step g c = λ done plan past s.
    let sent = c.if-send.false in
    let answered = (c.answer.ensures.unchanged c.if-answer.false).0 in
    let same = (c.acknowledge.ensures.unchanged c.if-acknowledge.false).0 ∙ (c.send.ensures.unchanged sent).0 ∙ answered in
    let none = c.send.ensures.none sent plan past (subst (λ (m : AcePort). AcePortStands m plan past) (sym answered) s.port) in
    let idle : may_send plan.header past c.acknowledge.new.self.port ≡ false =
    ap (λ (m : AcePort). may_send plan.header past m.port) ((c.acknowledge.ensures.unchanged c.if-acknowledge.false).0 ∙ (c.send.ensures.unchanged sent).0) ∙ none in
    turned-step c.go_on.new.self plan past c.go_on.new.out c.args.self.now.at.port c.args._port c.requires.serves (c.go_on.ensures.port ∙ ap (λ (m : AcePort). m.port) same)
    (c.go_on.ensures.turn done plan past (subst (λ (m : AcePort). AcePortStands m plan past) (sym same) s.port) idle)

pub returns-clause-stands : goal.returns-clause-stands
returns-clause-stands g c = λ done plan past s.
    let sent = c.if-send.false in
    let answered = (c.answer.ensures.unchanged c.if-answer.false).0 in
    let same = (c.acknowledge.ensures.unchanged c.if-acknowledge.false).0 ∙ (c.send.ensures.unchanged sent).0 ∙ answered in
    let none = c.send.ensures.none sent plan past (subst (λ (m : AcePort). AcePortStands m plan past) (sym answered) s.port) in
    let idle : may_send plan.header past c.acknowledge.new.self.port ≡ false =
    ap (λ (m : AcePort). may_send plan.header past m.port) ((c.acknowledge.ensures.unchanged c.if-acknowledge.false).0 ∙ (c.send.ensures.unchanged sent).0) ∙ none in
    turned-stands c.go_on.new.self c.args.self.now.at plan past c.go_on.new.out (g.P.Policy.rows c.answer.new.policy) (g.P.Policy.rows c.args.self.now.policy) c.answer.ensures.same_rows s
    (c.go_on.ensures.turn done plan past (subst (λ (m : AcePort). AcePortStands m plan past) (sym same) s.port) idle)

pub returns-clause-none : goal.returns-clause-none
returns-clause-none g c = λ still plan past s.
    let p = c.args.self.now.at.port in
    let h = plan.header in
    let answered = (c.answer.ensures.unchanged c.if-answer.false).0 in
    let sent = (c.send.ensures.unchanged c.if-send.false).0 ∙ answered in
    let acknowledged = (c.acknowledge.ensures.unchanged c.if-acknowledge.false).0 ∙ sent in
    let stands = λ (m : AcePort) (same : m ≡ c.args.self.now.at). subst (λ (m : AcePort). AcePortStands m plan past) (sym same) s.port in
    none-enabled plan past p c.args._port c.requires.serves (c.answer.ensures.none c.if-answer.false plan past s.port)
    (ap (λ (m : AcePort). may_send h past m.port) (sym answered) ∙ c.send.ensures.none c.if-send.false plan past (stands c.answer.new.self answered))
    (ap (λ (m : AcePort). may_acknowledge (next_operation plan past m.port) h past m.port) (sym sent) ∙ c.acknowledge.ensures.none c.if-acknowledge.false plan past (stands c.send.new.self sent))
    (ap (λ (m : AcePort). may_go_on plan.ways (next_operation plan past m.port) h past m.port) (sym acknowledged) ∙ c.go_on.ensures.none still plan past (stands c.acknowledge.new.self acknowledged))
