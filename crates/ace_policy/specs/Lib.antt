pub mod Chosen
pub mod Permitted
pub mod Policies
