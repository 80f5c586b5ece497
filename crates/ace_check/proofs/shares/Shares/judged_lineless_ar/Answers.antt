use Rattle.std.proofs.Common.{None, refl, sym, ap, ◌∙◌}
use Rattle.ace_check.proofs.Terms.{Ar, ar_kind_of, is_line_read, issued, Recording}
use Rattle.ace_check.proofs.Addresses.{ar-has_kind, filtered-off, keeps-2, lineless_ar-first, lineless_ar-keeps}
use Rattle.ace_check.proofs.Steps.{found-holds, found-rule, k1_kept, least_with}
use Rattle.ace_check.proofs.shares.Shares.judged_lineless_ar.Goals as goal

pub returns-in-Some-clause-least : goal.returns-in-Some-clause-least
returns-in-Some-clause-least c = λ h past s none.
    let a = c.args in
    let ports = c.rule_of_ar.ensures (record { header = h; past = past }) a.snoop a.dom a.bar s.ports c.read_ar-kind.ensures in
    sym (lineless_ar-first h past a.port a.id a.addr a.snoop a.dom a.bar a.lock c.in-Some.rule none (sym c.in-Some.is ∙ ports))

pub returns-in_default-kind-clause-least : goal.returns-in_default-kind-clause-least
returns-in_default-kind-clause-least c = λ h past s none.
    let a = c.args in
    let ports = sym c.in_default.is ∙ c.rule_of_ar.ensures (record { header = h; past = past }) a.snoop a.dom a.bar s.ports c.read_ar-kind.ensures in
    absurd (ar-has_kind h past a.port a.id a.addr a.snoop a.dom a.bar a.lock (sym c.read_ar-kind.ensures ∙ c.in_default-kind.is) (keeps-2 h past (Ar a.port a.id a.addr a.snoop a.dom a.bar a.lock) (sym ports)))

pub returns-clause-least : goal.returns-clause-least
returns-clause-least c = λ h past s none.
    let a = c.args in
    let e = Ar a.port a.id a.addr a.snoop a.dom a.bar a.lock in
    let k = c.in-Some-kind.kind in
    let r : Recording = record { header = h; past = past } in
    let ports = sym c.in_default.is ∙ c.rule_of_ar.ensures r a.snoop a.dom a.bar s.ports c.read_ar-kind.ensures in
    let kind = sym c.read_ar-kind.ensures ∙ c.in-Some-kind.is in
    found-rule _ _ _ c.found_unless.ensures
    ∙ least_with h past e None None _ ports (sym (lineless_ar-keeps h past a.port a.id a.addr a.snoop a.dom a.bar a.lock none))
    (c.system_rule_of_ar.ensures r s.system
    (record { issues = ap (λ n. issued n e) (sym (c.place.ensures r s.ports)); codes = kind; kind = kind; lineless = filtered-off is_line_read (ar_kind_of a.snoop a.dom a.bar) k kind none })
    (k1_kept h past e None ports refl))

pub returns-clause-found : goal.returns-clause-found
returns-clause-found c = λ h past s none.
    let a = c.args in
    let e = Ar a.port a.id a.addr a.snoop a.dom a.bar a.lock in
    let r : Recording = record { header = h; past = past } in
    let kind = sym c.read_ar-kind.ensures ∙ c.in-Some-kind.is in
    found-holds _ _ _ _ c.found_unless.ensures
    (record { issues = ap (λ n. issued n e) (sym (c.place.ensures r s.ports)); codes = kind; kind = kind; lineless = filtered-off is_line_read (ar_kind_of a.snoop a.dom a.bar) c.in-Some-kind.kind kind none })
