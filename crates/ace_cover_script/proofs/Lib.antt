pub mod Headers
pub mod Covering
pub mod Telling
pub mod Wishes
