pub mod Granted
pub mod Ports
