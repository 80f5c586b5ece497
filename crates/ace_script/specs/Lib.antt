pub mod Text
pub mod Fields
pub mod Operations
pub mod Grammar
pub mod Reading
pub mod Errors
pub mod Generated
pub mod Written
