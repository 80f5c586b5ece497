pub mod Covering
pub mod Generates
pub mod Shapes
pub mod Texts
