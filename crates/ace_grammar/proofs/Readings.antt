-- The readings of bytes as a trace. Each list of bytes has a malformed header or a reading, and no second one, and the reader's
-- answers give it.
--
-- A reading is a header, events and an ending. The bytes are the text of these and then nothing more (`Whole`), a line that is that
-- of no event (`Bad`), or more although a trace has no more events (`Full`).

-- A trace with one more event.
pub mod OneMore
-- What the reader has taken from its source.
pub mod Taken
-- One answer more of the reader.
pub mod Progress
-- No second reading.
pub mod OneReading
-- A reading of all bytes.
pub mod EveryReading
-- What stands whole at the front of bytes.
pub mod Fronts
