use Rattle.ace_grammar.proofs.Digits.OneByOne.{one_digit}
use Rattle.ace_grammar.proofs.fields.number_of_1.Goals as goal

pub returns-in-Some : goal.returns-in-Some
returns-in-Some c = cc (one_digit c.args.digits.now c.requires, c.in-Some.ensures.value, c.from.ensures)

pub returns-in-None : goal.returns-in-None
returns-in-None c = cc (one_digit c.args.digits.now c.requires, c.in-None.ensures.value)
