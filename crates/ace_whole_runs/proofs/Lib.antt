-- What the interconnect gives is legal where it breaks no rule.
pub mod Interconnect
-- The steps that serve a transaction.
pub mod Services
-- Memory updates and Evicts.
pub mod Updates
-- Bursts of one event: grants, passed data, transfers and the answers of DVM.
pub mod OneEvent
-- Snoops.
pub mod Snoops
-- Granted writes.
pub mod GrantedWrites
-- Barriers.
pub mod Barriers
-- DVM messages.
pub mod Forwarding
-- So an enabled step of the interconnect has a burst.
pub mod InterconnectMoves
-- What the masters of all ports keep, and that each enabled step of one has a whole burst.
pub mod Masters
-- So a run goes on until it is done.
pub mod WholeRuns
