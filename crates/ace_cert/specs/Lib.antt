pub mod Certificates
pub mod Checks
pub mod Walk
pub mod Worked
