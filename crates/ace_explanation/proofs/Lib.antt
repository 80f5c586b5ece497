pub mod Ends
pub mod EventLines
pub mod Hearing
pub mod HeaderLines
pub mod Lines
pub mod LastEvents
pub mod Telling
pub mod Unread
