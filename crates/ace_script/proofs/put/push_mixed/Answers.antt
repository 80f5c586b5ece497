use Rattle.std.proofs.Common.{◌++◌, ◌∷◌, [], codes, append_assoc, ◌∙◌}
use Rattle.ace_event.specs.Text.{hex_text}
use Rattle.ace_script.proofs.put.push_mixed.Goals as goal

pub returns : goal.returns
returns c =
    rw (c.push.ensures.value, c.push_number.ensures.value, c.append.ensures.value, c.from.ensures)
    (append_assoc (c.args.text.now ++ codes "POLICY mixed") (32 ∷ hex_text 16 c.args.n) (10 ∷ []) ∙ append_assoc c.args.text.now (codes "POLICY mixed") (32 ∷ (hex_text 16 c.args.n ++ 10 ∷ [])))
