-- Lemmas that know nothing of traces.

-- What a step that gave something was made of.
pub mod Options
-- Bytes without a line feed, without a space, and without either.
pub mod Visible
