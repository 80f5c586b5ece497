use Rattle.std.proofs.Common.{None, sym, ap, ◌∙◌}
use Rattle.ace_check.proofs.Terms.{Aw, issued, Recording}
use Rattle.ace_check.proofs.Addresses.{keeps-2, lineless_aw-first, lineless_aw-keeps, lineless_aw-kind, write-half}
use Rattle.ace_check.proofs.Steps.{found-holds, found-rule, least_with}
use Rattle.ace_check.proofs.shares.Shares.judged_lineless_aw.Goals as goal

pub returns-in-Some-clause-least : goal.returns-in-Some-clause-least
returns-in-Some-clause-least c = λ h past s none.
    let a = c.args in
    let ports = c.rule_of_aw.ensures (record { header = h; past = past }) a.snoop a.dom a.bar s.ports c.read_aw-kind.ensures in
    sym (lineless_aw-first h past a.port a.id a.addr a.snoop a.dom a.bar c.in-Some.rule none (sym c.in-Some.is ∙ ports))

pub returns-clause-least : goal.returns-clause-least
returns-clause-least c = λ h past s none.
    let a = c.args in
    let e = Aw a.port a.id a.addr a.snoop a.dom a.bar in
    let r : Recording = record { header = h; past = past } in
    let ports = sym c.in_default.is ∙ c.rule_of_aw.ensures r a.snoop a.dom a.bar s.ports c.read_aw-kind.ensures in
    let half = write-half c.place.result a.port a.id a.addr a.snoop a.dom a.bar (lineless_aw-kind h past a.port a.id a.addr a.snoop a.dom a.bar none (keeps-2 h past e (sym ports))) in
    found-rule _ _ _ c.found_unless.ensures
    ∙ least_with h past e None None _ ports (sym (lineless_aw-keeps h past a.port a.id a.addr a.snoop a.dom a.bar none))
    (c.rule_of_half.ensures r e s.system (ap (λ n. issued n e) (sym (c.place.ensures r s.ports))) half)

pub returns-clause-found : goal.returns-clause-found
returns-clause-found c = λ h past s none.
    let a = c.args in
    let e = Aw a.port a.id a.addr a.snoop a.dom a.bar in
    let r : Recording = record { header = h; past = past } in
    let ports = sym c.in_default.is ∙ c.rule_of_aw.ensures r a.snoop a.dom a.bar s.ports c.read_aw-kind.ensures in
    let half = write-half c.place.result a.port a.id a.addr a.snoop a.dom a.bar (lineless_aw-kind h past a.port a.id a.addr a.snoop a.dom a.bar none (keeps-2 h past e (sym ports))) in
    found-holds _ _ _ _ c.found_unless.ensures (ap (λ n. issued n e) (sym (c.place.ensures r s.ports)), half)
