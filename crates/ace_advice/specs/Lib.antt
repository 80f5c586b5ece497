pub mod Designs
pub mod Recorders
