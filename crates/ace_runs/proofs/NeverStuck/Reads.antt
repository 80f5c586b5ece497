-- A granted read in a run: once its snoops are done and it can take the passed data, it has its next transfer by step 8.

-- A transfer that is in order breaks no rule.
pub mod TransfersKept
-- A read that isn't complete has transfers left.
pub mod TransfersLeft
-- What a transfer tells doesn't change after the first.
pub mod UnderTransfers
-- Bursts whose transfers are in order.
pub mod InOrder
-- Those of barriers and DVM transactions are.
pub mod PlainTransfers
-- And so are those of all steps.
pub mod TransferSteps
-- The first response of a read says what step 8 says now.
pub mod FirstTransfers
-- So a granted read moves on.
pub mod ReadsMove
-- The transfer of a read without a line breaks no rule but those on order.
pub mod PlainReads
