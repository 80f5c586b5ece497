use Rattle.std.proofs.Common.{sym, ◌∙◌}
use Rattle.ace_check.proofs.ReadLaws.{transfer-keeps-1, transfer-lines-next, transfer-of, transfer-only, transfer-system-last}
use Rattle.ace_check.proofs.lineless_reads.rule_of_lineless_r.Goals as goal

pub returns-in-Some : goal.returns-in-Some
returns-in-Some c = λ r port id last p l s t lineless.
    let a = c.args in
    let x = a.x.now in
    let only = transfer-only r.header r.past port id a.resp last a.word x a.kind t lineless in
    let first = transfer-keeps-1 r.header r.past port id a.resp last a.word x a.kind t in
    transfer-lines-next r.header r.past port id a.resp last a.word c.in-Some.rule t.kept
    (sym c.in-Some.is ∙ c.rule_of_lineless_r.ensures r port id last x a.kind l t.served t.kind lineless only.0 first)

pub returns : goal.returns
returns c = λ r port id last p l s t lineless.
    let a = c.args in
    let x = a.x.now in
    let only = transfer-only r.header r.past port id a.resp last a.word x a.kind t lineless in
    let first = transfer-keeps-1 r.header r.past port id a.resp last a.word x a.kind t in
    let lines = sym c.in_default.is ∙ c.rule_of_lineless_r.ensures r port id last x a.kind l t.served t.kind lineless only.0 first in
    let system = c.system_rule_of_r.ensures r port id last a.word p s (transfer-of r.header r.past port id a.resp last a.word x a.kind t) t.kind in
    transfer-system-last r.header r.past port id a.resp last a.word c.system_rule_of_r.result t.kept lines system
