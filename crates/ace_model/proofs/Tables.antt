-- What the tables of `docs/TABLES.md` say of the state of a port. Nothing here looks at a trace: the rules K6, K15, K16,
-- K23, K28 and K29 say that a state is one that a table allows, and these lemmas say what follows from that for the laws.
--
-- The states I and SC are **settled**: a port in one of them may not store and owes memory nothing. A new state is **no
-- more** than the old one (`Lessens`) where a line that was not held is not held, one that was not unique is not unique,
-- and one that was settled is settled. It is **clean** by the old one (`cleans`) where it is dirty only if the old one
-- was.
--
-- - A silent transition (S, K29), the end of a write (WK, K28) and the answer to a snoop (CR, K15) leave a state that is
--   no more than the old one, and clean by it.
-- - The answer to a line snoop leaves I where IsShared is 0 or the snoop is ReadUnique, CleanInvalid or MakeInvalid, and
--   no unique state where it is ReadShared, ReadClean or ReadNotSharedDirty (`Leaves`).
-- - Every line snoop but MakeInvalid is sent a dirty line (DataTransfer), and where PassDirty is 0 the port stays dirty;
--   where it is 1, the port was dirty and no longer is. A port that sends a line held it. With a memory update
--   outstanding the port keeps the line, and PassDirty is 0 (`Beside`).
-- - The reads of a line, MakeInvalid and the granted writes with data start from I (K6).
-- - Only the end of a read (RK, K23) makes a state more. It is unique only where the held state was, or where the kind
--   takes the line alone (`takes_alone`): ReadUnique, MakeUnique, a CleanUnique that is no exclusive store that failed,
--   and ReadShared, ReadClean, ReadNotSharedDirty and CleanShared with IsShared 0. It is other than I only where the
--   port held the line, or the kind takes it alone or shared (`takes_shared`). It is dirty where the held state was,
--   PassDirty is 1 or the kind is MakeUnique, and else at most where the kind takes the line alone. Where the port held
--   nothing, it holds the line only after a read that fetches it (`is_fetch`) or a MakeUnique (`ReadEnds`).

-- The parts of a row: the new state, DataTransfer, PassDirty, IsShared, and what a memory update asks for.
pub mod LineRow
-- No more than the old state: the silent transition, the end of a write, the answer to a snoop.
pub mod States
-- A state that is no more than another and clean by it (`Less`).
pub mod Less
-- What a row of a snoop says of the data.
pub mod SnoopRows
-- The end of a read.
pub mod ReadEnds
-- The snoops that the kinds of reads cause, and what they leave to the ports that answer.
pub mod ReadSnoops
-- What the kinds of transactions say of each other.
pub mod Kinds
-- The kinds that start where their port holds nothing.
pub mod StartStates
