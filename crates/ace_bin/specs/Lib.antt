pub mod Binary
pub mod Errors
pub mod Fields
pub mod Given
pub mod Reader
pub mod Reading
pub mod Records
pub mod Window
