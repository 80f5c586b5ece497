-- The worked traces are ones for which the master of an ACE-Lite port may stand.
pub mod LiteWorked
