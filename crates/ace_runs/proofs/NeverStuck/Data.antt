-- Between the steps of a run data are whole: those of writes, those of answers to snoops, and a write of memory has its response.

-- A run has the beats of whole bursts.
pub mod WholeBursts
-- A run has the response to each write that has written memory.
pub mod WritesAnswered
-- A run has the data of each answer to a snoop.
pub mod WholeAnswers
-- So no port owes the data of an answer.
pub mod NoDataOwed
