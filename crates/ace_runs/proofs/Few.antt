pub mod Sums
pub mod Paces
pub mod Ports
pub mod Counting
pub mod Keys
pub mod Operations
pub mod Acts
pub mod Charges
pub mod Once
pub mod Transactions
pub mod Queues
pub mod Transfers
pub mod EarlierTransfers
pub mod Beats
pub mod AcePorts
pub mod LineSnoops
pub mod Parts
pub mod Completions
pub mod Sorts
pub mod Whole
pub mod Bound
-- How many snoops each port has, and how many lines are granted.
pub mod EachPort
-- How many lines a trace names.
pub mod KnownLines
