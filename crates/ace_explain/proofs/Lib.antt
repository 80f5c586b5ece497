-- What follows for the clauses of a rule where it is the least that an event breaks.
pub mod Broken
pub mod Kept
-- What an accepted trace has of passed data, and of the data of writes.
pub mod Owed
pub mod Written
-- The clauses of the rules of AR and AW, of barriers and messages, and of write data, grants and snoops.
pub mod AddressLetters
pub mod BarrierLetters
pub mod PartLetters
pub mod SnoopLetters
-- The clauses of the rules of snoop answers and their data, and of R and RK.
pub mod AnswerLetters
pub mod RowLetters
pub mod LineLooks
pub mod TransferLetters
pub mod ReadLetters
pub mod EndLetters
pub mod BitLetters
-- The clauses of the rules of M, B and WK, of stores and loads, and of order.
pub mod MemoryLetters
pub mod WriteLetters
pub mod CacheLetters
pub mod LoadSteps
pub mod LoadLetters
pub mod OrderLetters
-- The clause of a rule by its number.
pub mod AtRule
