use Rattle.std.proofs.Common.{option_copied, sym, ap, ◌∙◌}
use Rattle.ace_lineck.proofs.BeatLaws.{progress-from}
use Rattle.ace_explain.proofs.ReadLetters.{progress-none}
use Rattle.ace_explain.proofs.read_clauses.named_read.Goals as goal

pub returns-in-None : goal.returns-in-None
returns-in-None c = λ r p. sym (progress-none r.header r.past _ (sym (c.outstanding.ensures r p) ∙ ap option_copied c.in-None.is))

pub returns-in-Some : goal.returns-in-Some
returns-in-Some c = λ r p. sym (progress-from r.header r.past _ _ (sym (c.outstanding.ensures r p) ∙ ap option_copied c.in-Some.is))
