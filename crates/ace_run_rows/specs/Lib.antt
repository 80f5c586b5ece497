pub mod Rows
pub mod Short
pub mod Shared
pub mod Mixed
pub mod Lacking
