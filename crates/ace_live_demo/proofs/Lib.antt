-- The seats that a Live hands out.
pub mod Seats
