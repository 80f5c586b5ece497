-- The readings of bytes as a binary trace. Each list of bytes has a malformed header or a reading, and no second one.
--
-- A reading is a header, events and an ending. The bytes are the text of these and then nothing more (`Whole`), a malformed record
-- (`Bad`), or more although a trace has no more events (`Full`).

-- No second reading.
pub mod OneReading
-- A reading of all bytes.
pub mod EveryReading
-- What stands whole at the front of bytes.
pub mod Fronts
