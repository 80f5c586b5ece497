use Rattle.std.proofs.Common.{option_map, sym, ap, ◌∙◌}
use Rattle.ace_portck.proofs.Terms.{option_copied, Burst}
use Rattle.ace_portck.proofs.write_data.sent.Goals as goal

pub returns-in-Some : goal.returns-in-Some
returns-in-Some c = sym (ap (option_map (λ (b : Burst). b.sent)) (sym c.find_burst.ensures ∙ ap option_copied c.in-Some.is))

pub returns-in-None : goal.returns-in-None
returns-in-None c = sym (ap (option_map (λ (b : Burst). b.sent)) (sym c.find_burst.ensures ∙ ap option_copied c.in-None.is))
