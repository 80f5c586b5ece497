pub mod Ended
pub mod Errors
pub mod Follow
pub mod Limits
pub mod Progress
pub mod Verdict
