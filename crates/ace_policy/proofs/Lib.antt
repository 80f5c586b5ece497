pub mod KeptRow
