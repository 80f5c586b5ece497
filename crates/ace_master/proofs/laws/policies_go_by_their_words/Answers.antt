use Rattle.ace_master.proofs.AnsweredSnoops.PolicyWords.{eager-by-word, keep-by-word, mixed-by-word}
use Rattle.ace_master.proofs.laws.policies_go_by_their_words.Goals as goal

pub returns-clause-keep : goal.returns-clause-keep
returns-clause-keep c = keep-by-word

pub returns-clause-eager : goal.returns-clause-eager
returns-clause-eager c = eager-by-word

pub returns-clause-mixed : goal.returns-clause-mixed
returns-clause-mixed c = mixed-by-word
