-- What a report of a trace rests on: that nothing happened to a line before a line transaction named it.
--
-- A store to a line is made by a port that holds it or by its granted transaction, so the line is known then. Memory of it is
-- written for an outstanding transaction that names it, or by its MEM, which makes memory and the value the same line; and before a
-- MEM there are MEM events alone. So as long as no line transaction names a line it has no stores, and its value is what memory has.

-- The stores to a line, and lines that aren't known.
pub mod Untouched
