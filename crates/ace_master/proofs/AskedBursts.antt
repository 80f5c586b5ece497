-- The bursts by which a port asks.

-- What a port asks by, among the bursts by which it may.
pub mod OneBurst
-- The bursts by which a port makes room.
pub mod RoomBursts
-- Each burst by which a port may ask breaks no rule.
pub mod GoodBursts
-- What a port asks for by its next operation is a step.
pub mod AskingSteps
-- The events by which a port asks.
pub mod AskedEvents
-- Both parts of a DVM message.
pub mod MessageParts
