pub mod Report
pub mod Lines
pub mod Stands
pub mod Next
pub mod Heard
pub mod Put
