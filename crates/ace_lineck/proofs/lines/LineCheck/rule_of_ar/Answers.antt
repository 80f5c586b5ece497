use Rattle.std.proofs.Common.{◌≡◌, Some, ap, ◌∙◌}
use Rattle.ace_lineck.proofs.Terms.{LineRecord, use_of}
use Rattle.ace_lineck.proofs.AddressLaws.{read-address-rule}
use Rattle.ace_lineck.proofs.WritesAndLoads.{state-on}
use Rattle.ace_lineck.proofs.lines.LineCheck.rule_of_ar.Goals as goal

pub returns : goal.returns
returns c = λ r id addr snoop dom bar lock s at kind line.
    let is = c.record.ensures (Some addr) at in
    let held = state-on c.args.self.now r c.args.port addr c.record.result.now s is in
    let used : c.record.result.now.used ≡ use_of r.past addr = ap (λ (v : LineRecord). v.used) is ∙ (s.lines addr).used in
    c.rule_of_read.ensures ∙ (rw (held, used) (read-address-rule r.header r.past c.args.port id addr snoop dom bar lock c.args.kind kind line s.accepted))
