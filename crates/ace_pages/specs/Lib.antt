pub mod Advice
pub mod Named
pub mod Pages
pub mod Told
