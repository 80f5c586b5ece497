use Rattle.std.proofs.Common.{sym, ◌∙◌}
use Rattle.ace_check.proofs.Terms.{aw_kind_of, Aw, is_line_write, Recording}
use Rattle.ace_model.proofs.General.Options.{option_filter-is}
use Rattle.ace_sysck.proofs.ByKind.WriteAddresses.{system-keeps}
use Rattle.ace_check.proofs.Addresses.{lesser-of-two}
use Rattle.ace_check.proofs.shares.Shares.rule_of_line_aw.Goals as goal

pub returns : goal.returns
returns c = λ h past snoop dom bar s at kind.
    let a = c.args in
    let r : Recording = record { header = h; past = past } in
    let codes = option_filter-is is_line_write (aw_kind_of snoop dom bar) a.kind kind in
    let ports = c.rule_of_aw-at_port.ensures r snoop dom bar s.ports (sym codes.0) in
    let lines = c.rule_of_aw-on_line.ensures r a.id a.addr snoop dom bar s.lines at codes.0 codes.1 in
    c.lesser.ensures
    ∙ lesser-of-two h past (Aw a.port a.id a.addr snoop dom bar) _ _ ports lines (sym (system-keeps h past a.port a.id a.addr snoop dom bar a.kind kind))
