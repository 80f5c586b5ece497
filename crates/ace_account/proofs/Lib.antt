pub mod Heard
pub mod Rest
pub mod SomeAccount
