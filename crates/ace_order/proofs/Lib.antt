-- A burst that one of the four steps gives is a step of the engine.
pub mod FourSteps
-- The R of a read without a line.
pub mod PlainReads
-- The halves of barrier pairs are answered together.
pub mod Together
-- The R and the B of a barrier pair leave all pairs answered together.
pub mod BothAnswered
-- A barrier that has to wait has to until an event belongs to a transaction of its port.
pub mod Waits
-- A port of which no DVM transaction is outstanding.
pub mod WithoutDvm
-- The R and the B of a barrier pair that may have them are a step.
pub mod BarrierSteps
-- What stays with an event that is none of the engine's own.
pub mod Others
-- The R of a part of a DVM message, or of a DVM Complete, that may have it is a step.
pub mod DvmSteps
-- The AC that completes a Sync is a step.
pub mod SyncSteps
-- The message that is next for a port.
pub mod NextMessages
-- What the engine gives each port of a message.
pub mod GivenParts
-- The events of each port are next to each other, and are what it gets.
pub mod ByPorts
-- The ACs that forward a message break no rule, and leave messages forwarded whole.
pub mod Forwarded
-- Once each port has had the message, messages were forwarded whole.
pub mod WholeAfter
-- A burst has room for what the ports get of a message.
pub mod FewParts
-- The burst that forwards a message is a step.
pub mod ForwardSteps
-- The first part of a message that is the next for some port is outstanding.
pub mod StillOut
-- A part of a DVM message and a DVM Complete have an ARSNOOP above 13.
pub mod DvmCodes
-- What comes next for a port stays until a part of a message is issued or one is forwarded to it.
pub mod NextSenders
-- While the R of a part has to wait, that of each later part of its port has to.
pub mod AnsweredInOrder
