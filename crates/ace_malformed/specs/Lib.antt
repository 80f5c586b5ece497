pub mod Cut
pub mod Fields
pub mod Lines
pub mod Places
pub mod Sentences
pub mod Texts
pub mod Wrong
