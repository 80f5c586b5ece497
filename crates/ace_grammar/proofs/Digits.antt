-- Hexadecimal digits, and the number that they are.
--
-- The number of some bytes is defined digit by digit (`digits_onto`): one that is no digit, and there is none. The code looks all
-- bytes up in a table and decides once whether each was a digit. So the table is held against the definition at each of the 256
-- bytes, and then both ways of the code, the loop over at most 16 digits and the 16 digits side by side, find that number.

-- The table of the 256 bytes.
pub mod Entries
-- Digits one by one, as the loop reads them.
pub mod OneByOne
-- Sixteen digits side by side.
pub mod EntryLanes
-- The digits that are read are those of the number's text, and the text is read as the number.
pub mod Hex
-- A number of 32 digits, by its halves.
pub mod WordHalves
