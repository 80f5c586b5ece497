-- What the three shares of the rules keep of a trace.
pub mod Shares
pub mod Promises
pub mod Run
pub mod Heard
pub mod Found
pub mod Addresses
pub mod ReadData
