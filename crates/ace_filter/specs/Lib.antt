pub mod Waiting
pub mod Queue
pub mod Change
pub mod Sets
pub mod Port
pub mod Filter
pub mod Drain
