mod Terms
pub mod Renewed
pub mod Ending
pub mod Few
pub mod Named
pub mod Heard
pub mod Stays
pub mod Found
pub mod SnoopLaws
pub mod SnoopSteps
pub mod WriteLaws
pub mod WriteSteps
pub mod Parts
pub mod Elsewhere
pub mod Kept
pub mod AllPorts
pub mod Rooms
pub mod LineMaps
-- A port's own transaction on a line (K5), and what the rules ask of it.
pub mod Own
-- What the transactions are, by their kinds.
pub mod LineReads
pub mod DvmReads
pub mod ReadAddresses
pub mod LineWrites
pub mod WriteAddresses
pub mod BarrierAddresses
pub mod BarrierResponses
-- What the rules ask of an RK and a WK, by the transaction that it belongs to.
pub mod Acknowledges
