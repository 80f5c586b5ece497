-- A line that isn't that of an event has a reason, and the line of an event has none.
--
-- The reasons are defined on the fields between the spaces of a line. A field of some kind has no reason exactly where it is the
-- text of a value in its range (`Kind`), the fields behind a record word exactly where they are the texts of such values (`Row`),
-- and so all fields of a line exactly where they are those of an event in range. The fields that a line is cut into are the only
-- ones that it is made of, so the reason is one.

-- What a field of each kind has to be.
pub mod FieldKinds
-- The field of a cache line.
pub mod LineKind
-- The fields behind each record word.
pub mod Rows
-- The fields of a whole line.
pub mod EventReasons
-- A line cut at its spaces, and put together again.
pub mod CutFields
-- The reasons of lines.
pub mod LineReasons
