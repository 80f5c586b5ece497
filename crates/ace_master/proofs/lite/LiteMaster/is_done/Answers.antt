use Rattle.std.proofs.Common.{not, ◌&&◌, ap, sym, ◌∙◌}
use Rattle.ace_model.specs.Trace.{is_some_and}
use Rattle.ace_model.specs.Transactions.{is_outstanding}
use Rattle.ace_master.specs.Lite.{port_of}
use Rattle.ace_master.proofs.LiteOwn.{read-own, write-own}
use Rattle.ace_master.proofs.lite.LiteMaster.is_done.Goals as goal

pub returns-then-not-is_out : goal.returns-then-not-is_out
returns-then-not-is_out c = λ plan past s.
    let m = c.args.self.now in
    let p = port_of m in
    let out = is_outstanding plan.header past in
    let reads = c.is_out.ensures plan past s (read-own past p m.read m.write s.tells.issued.segment_is) in
    let writes = c.is_out-then-not-is_out.ensures plan past s (write-own past p m.read m.write s.tells.issued.segment_is) in
    ap not writes ∙ sym (ap (λ b. not b && not (is_some_and m.write out)) (sym reads ∙ c.if-not-is_out.true))

pub returns-else-not-is_out : goal.returns-else-not-is_out
returns-else-not-is_out c = λ plan past s.
    let m = c.args.self.now in
    let p = port_of m in
    let out = is_outstanding plan.header past in
    let reads = c.is_out.ensures plan past s (read-own past p m.read m.write s.tells.issued.segment_is) in
    ap not c.if-not-is_out.false ∙ sym (ap (λ b. not b && not (is_some_and m.write out)) (sym reads ∙ c.if-not-is_out.false))
