pub mod Looks
pub mod Painted
pub mod Painters
pub mod Unpainted
pub mod Watching
pub mod Wishes
