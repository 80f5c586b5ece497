use Rattle.std.proofs.Common.{sym, ◌∙◌}
use Rattle.ace_check.proofs.Terms.{Recording}
use Rattle.ace_check.proofs.shares.Shares.rule_of_r.Goals as goal

pub returns-in-Err : goal.returns-in-Err
returns-in-Err c = λ h past s. sym (c.in-Err.ensures.broken (record { header = h; past = past }) c.args.word s.ports)

pub returns-then-not-is_line_read : goal.returns-then-not-is_line_read
returns-then-not-is_line_read c = λ h past s.
    let a = c.args in
    let r : Recording = record { header = h; past = past } in
    let t = c.in-Ok.ensures.found r a.word s.ports in
    c.rule_of_lineless_r.ensures r a.port a.id a.last s.ports s.lines s.system t (sym c.is_line_read.ensures ∙ c.if-not-is_line_read.true)

pub returns : goal.returns
returns c = λ h past s.
    let a = c.args in
    let r : Recording = record { header = h; past = past } in
    let t = c.in-Ok.ensures.found r a.word s.ports in
    c.rule_of_line_r.ensures r a.port a.id a.last s.lines s.system t (sym c.is_line_read.ensures ∙ c.if-not-is_line_read.false) c.place-place.ensures
