use Rattle.std.proofs.Common.{sym, ◌∙◌}
use Rattle.ace_check.proofs.Terms.{Ar, Recording}
use Rattle.ace_sysck.proofs.ByKind.ReadAddresses.{system-keeps}
use Rattle.ace_check.proofs.Addresses.{lesser-of-two}
use Rattle.ace_check.proofs.shares.Shares.rule_of_line_ar.Goals as goal

pub returns : goal.returns
returns c = λ h past snoop dom bar s at kind on.
    let a = c.args in
    let r : Recording = record { header = h; past = past } in
    let ports = c.rule_of_ar-at_port.ensures r snoop dom bar s.ports (sym kind) in
    let lines = c.rule_of_ar-on_line.ensures r a.id a.addr snoop dom bar a.lock s.lines at kind on in
    c.lesser.ensures
    ∙ lesser-of-two h past (Ar a.port a.id a.addr snoop dom bar a.lock) _ _ ports lines (sym (system-keeps h past a.port a.id a.addr snoop dom bar a.lock a.kind kind on))
