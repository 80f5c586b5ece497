pub mod Number
pub mod Output
