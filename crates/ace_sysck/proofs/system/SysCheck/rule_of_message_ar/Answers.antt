use Rattle.std.proofs.Common.{◌∙◌, length, refl, ap, sym}
use Rattle.ace_portck.proofs.ReadAddresses.{read_of}
use Rattle.ace_sysck.proofs.ByKind.MessageAddresses.{ar_within, message_rule}
use Rattle.ace_sysck.proofs.ByKind.ReadAddresses.{least_of_one}
use Rattle.ace_sysck.proofs.system.SysCheck.rule_of_message_ar.Goals as goal

pub returns : goal.returns
returns c = λ r id snoop lock s kind first.
    let a = c.args in
    let x = read_of (length r.past) a.port id a.addr snoop a.dom a.bar lock in
    let low = ar_within r.header r.past a.port id a.addr snoop a.dom a.bar lock first in
    c.unless.ensures ∙ ap least_of_one (c.lets_begin.ensures r x s.messages low refl refl refl refl)
    ∙ sym (message_rule r.header r.past a.port id a.addr snoop a.dom a.bar lock kind)
