use Rattle.ace_terminal.proofs.Escapes.{read_painted}
use Rattle.ace_terminal.proofs.laws.painted_is_read_as_the_text.Goals as goal

pub returns : goal.returns
returns c = read_painted
