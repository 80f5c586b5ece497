-- The front of the bytes: the two lines of the header, and one line against what the reader of lines cut.

-- The port letters of a header.
pub mod Letters
-- A line that stands at the front, or none.
pub mod Cut
-- Where the input failed in the header, no header stands whole in what was taken.
pub mod NoHeader
