use Rattle.std.proofs.Common.{sym, ◌∙◌}
use Rattle.ace_explain.proofs.PartLetters.{unlike_first, no_word, early_sync}
use Rattle.ace_explain.proofs.address_clauses.clause_of_part.Goals as goal

pub returns-in-Some : goal.returns-in-Some
returns-in-Some c = λ r e s is part. unlike_first r e c.args.part.now is part _ (sym (c.messages_of.ensures r s).first ∙ c.in-Some.is)

pub returns-then-is_message_word : goal.returns-then-is_message_word
returns-then-is_message_word c = λ r e s is part.
    early_sync r e c.args.part.now is part (sym (c.messages_of.ensures r s).first ∙ c.in-None.is) (sym c.is_message_word.ensures ∙ c.if-is_message_word.true)

pub returns-else-is_message_word : goal.returns-else-is_message_word
returns-else-is_message_word c = λ r e s is part.
    no_word r e c.args.part.now is part (sym (c.messages_of.ensures r s).first ∙ c.in-None.is) (sym c.is_message_word.ensures ∙ c.if-is_message_word.false)
