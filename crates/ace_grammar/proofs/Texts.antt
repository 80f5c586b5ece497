-- What is read is what was written: the definition `event_at`, by which the code reads a line, gives an event exactly where the line
-- is the text of that event.
--
-- A field is taken exactly (`Takes`) where what is taken is the text of a value in its range, each such text is taken whatever
-- follows, and none is longer than a bound. Fields behind each other are then taken exactly too, and the last of a line with its
-- end, so the rest of a line behind its record word is, for each of the records; and the record words are told apart letter by
-- letter.

-- Exactness, kept when fields are put behind each other.
pub mod Exact
-- What is made of a value at the end of a line.
pub mod Ended
-- The fields, one by one.
pub mod FieldTexts
-- The field of a cache line.
pub mod CacheLines
-- The fields behind each record word.
pub mod RecordTexts
-- Whole lines.
pub mod LineTexts
