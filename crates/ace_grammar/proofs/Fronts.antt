pub mod AllHanded
pub mod FirstLetters
pub mod Handed
