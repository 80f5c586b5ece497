pub mod Bytes
pub mod Ports
pub mod Range
pub mod Text
