pub mod Repeating
pub mod Commas
pub mod Counting
pub mod Hearing
pub mod Ends
pub mod Pairing
pub mod Listings
