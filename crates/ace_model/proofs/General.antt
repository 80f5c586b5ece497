-- Lemmas that know nothing of ACE: what holds of any Booleans, options, lists and ports.

-- `implies` and `same_test` used, the two branches of a test, a count that may have risen by one.
pub mod Booleans
-- What a look that may find nothing says where it finds something.
pub mod Options
-- Tests of the ports of a header: of each, of some, and the port that is found.
pub mod Ports
-- One more element at the end of a list, places of its parts, a list that a longer one begins with (`IsStart`), counts.
pub mod Lists
-- A list whose elements have numbers of their own below n has at most n elements.
pub mod Pigeonhole
