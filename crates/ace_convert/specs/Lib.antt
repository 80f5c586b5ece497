pub mod Converted
pub mod Ends
pub mod Form
pub mod Output
pub mod Reading
pub mod Spelling
