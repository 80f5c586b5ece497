pub mod Expected
pub mod Tables
pub mod Texts
