pub mod Faults
pub mod Lanes
pub mod Line
pub mod MemSink
pub mod MemSource
pub mod Reader
pub mod StdSink
pub mod StdSource
