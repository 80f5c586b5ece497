pub mod Found
pub mod Origins
pub mod Texts
pub mod Words
