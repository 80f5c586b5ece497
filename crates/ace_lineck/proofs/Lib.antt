mod Terms
-- The line of an event, and what an event of another line leaves as it is.
pub mod OnLine
pub mod OffLine
-- The data and the states of the ports, and memory, at an event of their line.
pub mod HolderSteps
pub mod StateSteps
-- The bursts that answer snoops: whose they are, and the line that they send.
pub mod Bursts
pub mod Sent
-- What is kept of a grant: at an event of another line, of its own line, and for the target of an event.
pub mod GrantFrame
pub mod GrantSteps
pub mod GrantServes
pub mod GrantHear
-- The line that a read has received whole is its reply.
pub mod Received
-- Which lines are known, where their records stand, and what is kept of all lines.
pub mod KnownLines
pub mod Places
pub mod AllLines
pub mod Rooms
pub mod Heard
-- What the rules say, in the words of what is kept.
pub mod RuleLaws
pub mod GrantLaws
pub mod SnoopLaws
pub mod ReplyLaws
pub mod WriteLaws
-- What the interconnect looks up of a line.
pub mod LineLooks
pub mod WaitingLooks
pub mod PortLooks
-- Which rule is told, where one is asked by itself, and where two are asked in order.
pub mod Asked
-- The AR or AW of a line transaction: what it asks of its line.
pub mod AddressLaws
-- The events with which a line begins: an AR, an AW or a MEM.
pub mod Beginnings
-- An R: the least rule that it breaks, and what that of a line read leaves.
pub mod BeatLaws
pub mod BeatSteps
pub mod LinelessBeats
-- What an RK or WK asks of its line, and what it leaves.
pub mod AcknowledgeLaws
pub mod AcknowledgeSteps
-- What a W and an L ask of a line.
pub mod WritesAndLoads
-- A B: what it asks of its write, and what that of a line write leaves.
pub mod WriteResponses
pub mod BarrierResponses
-- What a G grants, by what is kept of the line.
pub mod Granting
-- A CR: what is asked of it, and what it leaves of the line of its snoop.
pub mod SnoopAnswers
-- A CD: what it asks of its line, and what it leaves.
pub mod SnoopData
-- What an M asks of its line, and what it leaves.
pub mod MemoryWrites
-- An S and a D: what each asks of its line, and what it leaves.
pub mod SilentChanges
pub mod StoreLaws
-- Events that move nothing of any line: W, L and OP, and the ACs of DVM.
pub mod StillLines
pub mod MessageSnoops
