pub mod LastLoads
pub mod Names
pub mod Answers
