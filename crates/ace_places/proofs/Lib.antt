-- The walk of a line: how it ends, and how it stays as lines come.
pub mod Walks
pub mod Depths
pub mod Trees
pub mod Search
pub mod Slots
pub mod Begins
pub mod Adding
pub mod Zips
pub mod Maps
pub mod Growing
