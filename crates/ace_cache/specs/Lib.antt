pub mod LineCache
pub mod Ways
