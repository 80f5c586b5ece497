pub mod Elements
pub mod Escaping
