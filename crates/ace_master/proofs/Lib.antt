-- What is kept of a port has room for each event.
pub mod KeptPorts
-- The strobes of the beats of a burst.
pub mod Beats
-- No more operations of a port retired than it has.
pub mod Retirements
-- An event that is not one of the port's master leaves what the port has done.
pub mod OtherEvents
-- What the master of an ACE-Lite port keeps stands after such an event.
pub mod LiteHeard
-- What makes that an event of a master obeys the plan and is lean.
pub mod Obeying
-- What each operation of an ACE-Lite port asks for.
pub mod LiteOperations
-- By which steps an ACE-Lite port goes on.
pub mod LiteMoves
-- A burst that is a step of an ACE-Lite port, and what its master keeps then.
pub mod LiteNext
-- The AR of an operation that reads is a step.
pub mod LiteReads
-- The four W of a burst are a step.
pub mod LiteSends
-- The OP of an operation that may retire is a step.
pub mod LiteRetires
-- An ACE-Lite port gives no line up.
pub mod LitePorts
-- The AW of an operation that writes is a step.
pub mod LiteWrites
-- Both halves of a barrier are a step.
pub mod LiteBarriers
-- What a port has issued for its next operation is its own.
pub mod LiteOwn
-- Where the next operation waits for its line.
pub mod LiteWaits
-- What the port has issued for its next operation, where it has one more operation.
pub mod LitePushed
-- The answers of a port to its snoops.
pub mod AnsweredSnoops
-- The write data that a port sends.
pub mod WriteData
-- What the master of an ACE port keeps.
pub mod AcePorts
-- The bursts by which a port asks.
pub mod AskedBursts
