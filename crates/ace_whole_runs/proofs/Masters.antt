-- What the masters of all ports keep, and that each enabled step of one has a whole burst.

-- What the masters of all ports keep that go by steps.
pub mod Keeping
-- Where a snoop has a row, the policy picks one.
pub mod PickedRows
-- The steps of an ACE port.
pub mod AceMoves
-- The steps of an ACE-Lite port.
pub mod LiteMoves
-- The masters of all ports together.
pub mod AllPorts
