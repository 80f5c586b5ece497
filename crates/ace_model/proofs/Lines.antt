-- What a fold over one line rests on: which lines are known, and that a grant lasts while a port owes the data of an answer.
--
-- - **A line is known** where a line transaction of the trace names it (`is_known`). So is a line that a port holds, one with a
--   granted transaction, and one that was snooped (K13): each rests on a transaction of the line.
-- - **A port that owes data under a grant** (`Owing`). It answered a snoop of the line with DataTransfer under the present grant,
--   and the four beats aren't there yet. Then the snoops of the granted transaction aren't done: by K18 and K24 it can't begin,
--   and what ends has begun (by K18, K22 and K26), so the grant lasts. By K12 the line isn't given to another one meanwhile. So a
--   port that owes data of a line isn't snooped again for it.
-- - **The words that a read of a line has had are those of its reply**, by K20; the reply stays the same from the first beat on.

-- Lines that are known.
pub mod Known
-- A port that owes data.
pub mod Owing
-- The words of a read.
pub mod ReplyWords
