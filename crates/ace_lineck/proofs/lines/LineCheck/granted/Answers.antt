use Rattle.std.proofs.Common.{Some, ◌∙◌, option_map, ap}
use Rattle.ace_lineck.proofs.Terms.{Grant, LineRecord, name_of}
use Rattle.ace_lineck.proofs.AllLines.{name-granted}
use Rattle.ace_lineck.proofs.lines.LineCheck.granted.Goals as goal

pub returns : goal.returns
returns c r l s q =
    c.granted_name.ensures ∙ ap (λ (v : LineRecord). option_map (λ (g : Grant). name_of g.transaction) v.grant) (c.record.ensures (Some l) q)
    ∙ name-granted r.header r.past l _ (s.lines l).grant
