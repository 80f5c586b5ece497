-- The answers of a port to its snoops.

-- What a row of a snoop says.
pub mod Rows
-- The answer to a snoop by one of its rows.
pub mod Answers
-- Which events leave a port that has sent the data of its answers so.
pub mod AnnouncedData
-- The policies pick the rows that the words of plans allow.
pub mod PolicyWords
