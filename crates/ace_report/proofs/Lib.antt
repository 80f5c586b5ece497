pub mod Puts
pub mod Counted
pub mod Order
pub mod Texts
pub mod StoredBytes
pub mod HeardLines
pub mod Tallies
