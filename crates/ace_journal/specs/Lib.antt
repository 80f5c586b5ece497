pub mod Journals
pub mod LedTexts
pub mod SideTexts
pub mod Looks
pub mod Marks
pub mod Rows
pub mod Transfers
