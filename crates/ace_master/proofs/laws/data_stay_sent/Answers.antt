use Rattle.ace_master.proofs.AnsweredSnoops.AnnouncedData.{data-sent-left, others-no-answer}
use Rattle.ace_master.proofs.laws.data_stay_sent.Goals as goal

pub returns-clause-stays : goal.returns-clause-stays
returns-clause-stays c = λ past p e quiet all. data-sent-left past p e quiet all

pub returns-clause-others : goal.returns-clause-others
returns-clause-others c = λ past p e other. others-no-answer past p e other
