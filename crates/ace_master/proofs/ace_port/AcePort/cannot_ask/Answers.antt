use Rattle.std.proofs.Common.{◌≡◌, [], refl, sym, subst}
use Rattle.ace_codes.specs.declared.kind.AwKind.TheVariants as write
use Rattle.ace_model.specs.declared.plans.Op.{Op}
use Rattle.ace_model.specs.declared.plans.Op.TheVariants.{Wu, Wlu}
use Rattle.ace_runs.specs.Requests.{moves_of}
use Rattle.ace_master.proofs.AcePorts.Unasked.{write-unasked}
use Rattle.ace_master.proofs.LiteOperations.{write-of}
use Rattle.ace_master.proofs.ace_port.AcePort.cannot_ask.Goals as goal

pub returns-in-Wu : goal.returns-in-Wu
returns-in-Wu c = λ lacks plan past s next.
    let w = c.in-Wu in
    let h = plan.header in
    let p = c.args.self.now.port in
    let op : Op = Wu w.addr w.strobe w.line in
    subst (λ o. moves_of plan.ways h past p o ≡ []) (sym w.is)
    (write-unasked plan.ways h past p w.addr (c.cannot_write.ensures.free lacks plan past s) op write.WriteUnique (write-of op write.WriteUnique w.addr refl) (λ st. refl) (c.cannot_write.ensures.held lacks plan past s))

pub returns-in-Wlu : goal.returns-in-Wlu
returns-in-Wlu c = λ lacks plan past s next.
    let w = c.in-Wlu in
    let h = plan.header in
    let p = c.args.self.now.port in
    let op : Op = Wlu w.addr w.line in
    subst (λ o. moves_of plan.ways h past p o ≡ []) (sym w.is)
    (write-unasked plan.ways h past p w.addr (c.cannot_write-in-Wlu.ensures.free lacks plan past s) op write.WriteLineUnique (write-of op write.WriteLineUnique w.addr refl) (λ st. refl) (c.cannot_write-in-Wlu.ensures.held lacks plan past s))
