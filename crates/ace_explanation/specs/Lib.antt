pub mod Explanations
pub mod Following
pub mod Refusals
pub mod Texts
pub mod Told
