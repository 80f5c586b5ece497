-- What an event leaves of the segment of a port.
pub mod SegmentMoves
-- What a call of the cache leaves of each way.
pub mod ChangedWays
-- Whether a transaction of the port on a line is outstanding.
pub mod UnderWay
-- What an event leaves of a line at a port.
pub mod LinesHeard
-- What an event of the port leaves of a line.
pub mod OwnLines
-- With each event of the port.
pub mod LineEvents
-- Lines and words that are put in their places.
pub mod ArrivingLists
-- What an event leaves of the lines that come to a port.
pub mod ArrivingHeard
-- As many lines as a port holds.
pub mod HeldCount
-- As many lines as the port holds are in the cache.
pub mod AsManyHeld
-- After a transfer and a store.
pub mod Brought
-- What an event leaves of the monitor of a port.
pub mod MonitorMoves
-- The parts of messages for a port, in order.
pub mod PartOrder
-- The Syncs that a port has answered.
pub mod SyncsAnswered
-- Identifiers as the bits of a word.
pub mod IdentifierBits
-- Which identifiers of a port are free after an event.
pub mod FreeIdentifiers
-- What an event leaves of the identifiers in use.
pub mod IdentifierMoves
-- The least identifier that passes a test.
pub mod LeastIdentifiers
-- What is kept of a port may hear each event that an engine may.
pub mod KeptHears
-- A loop that looks for an element which passes a test.
pub mod Found
-- What an event leaves of the Syncs of a port.
pub mod SyncMoves
-- A list without elements that pass a test.
pub mod NoneFound
-- No more operations of a port retired than it has.
pub mod Retirements
-- Which events end an operation, case by case.
pub mod Closings
-- What an event of another port leaves of all that.
pub mod Elsewhere
