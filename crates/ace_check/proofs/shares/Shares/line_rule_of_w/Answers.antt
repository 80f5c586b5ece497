use Rattle.std.proofs.Common.{refl, sym, ◌∙◌}
use Rattle.ace_check.proofs.Terms.{Recording}
use Rattle.ace_check.proofs.shares.Shares.line_rule_of_w.Goals as goal

pub returns-in_default : goal.returns-in_default
returns-in_default c = λ h past strb last s first.
    let r : Recording = record { header = h; past = past } in
    let none = sym (c.next_write.ensures r s.ports) ∙ c.in_default.is in
    rw none refl

pub returns : goal.returns
returns c = λ h past strb last s first.
    let r : Recording = record { header = h; past = past } in
    let own = sym (c.next_write.ensures r s.ports) ∙ c.in-Some.is in
    c.rule_of_w.ensures r c.args.port strb last s.lines first own (c.next_write_beat-beat.ensures r s.ports)
