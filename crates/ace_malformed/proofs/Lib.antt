pub mod Cuts
pub mod Found
pub mod Headers
pub mod Shapes
pub mod Slices
