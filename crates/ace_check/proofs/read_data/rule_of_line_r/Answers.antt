use Rattle.std.proofs.Common.{sym, ◌∙◌}
use Rattle.ace_check.proofs.ReadLaws.{line-read-other, transfer-keeps-1, transfer-lines-next, transfer-of, transfer-system-last}
use Rattle.ace_check.proofs.read_data.rule_of_line_r.Goals as goal

pub returns-in-Some : goal.returns-in-Some
returns-in-Some c = λ r port id last l s t line at.
    let a = c.args in
    let out = transfer-of r.header r.past port id a.resp last a.word a.x.now a.kind t in
    let failed = c.is_failed_store-failed.ensures r port id s out in
    let first = transfer-keeps-1 r.header r.past port id a.resp last a.word a.x.now a.kind t in
    transfer-lines-next r.header r.past port id a.resp last a.word c.in-Some.rule t.kept
    (sym c.in-Some.is ∙ c.rule_of_r.ensures r port id last l t.served t.kind line failed at first)

pub returns : goal.returns
returns c = λ r port id last l s t line at.
    let a = c.args in
    let out = transfer-of r.header r.past port id a.resp last a.word a.x.now a.kind t in
    let failed = c.is_failed_store-failed.ensures r port id s out in
    let first = transfer-keeps-1 r.header r.past port id a.resp last a.word a.x.now a.kind t in
    let other = line-read-other a.x.now.transaction a.kind t.kind line in
    let lines = sym c.in_default.is ∙ c.rule_of_r.ensures r port id last l t.served t.kind line failed at first in
    let system = c.rule_of_r-2.ensures r port id last a.word s out other.0 other.1 in
    transfer-system-last r.header r.past port id a.resp last a.word c.rule_of_r-2.result t.kept lines system
