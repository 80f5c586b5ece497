use Rattle.std.proofs.Common.{if◌then◌else◌, Some, None, sym, ap, ◌∙◌}
use Rattle.ace_portck.proofs.Acknowledges.{then_some-is, read-line}
use Rattle.ace_portck.proofs.acknowledge_rules.line_of_read.Goals as goal

pub returns : goal.returns
returns c = λ kind.
    let x = c.args.x.now.transaction in
    c.then_some.ensures ∙ then_some-is c.is_line_read.result x.addr
    ∙ ap (λ b. if b then Some x.addr else None) (c.is_line_read.ensures ∙ sym (read-line x c.args.kind kind))
