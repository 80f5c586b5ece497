-- What contracts see of a live system.
pub mod Running
-- What a call of it ends with.
pub mod Entries
-- What each seat knows, and sums over the seats.
pub mod Views
-- What holds between any two steps.
pub mod Rule
-- What each kind of step tells.
pub mod Steps
-- What contracts see of seats, and what a call promises.
pub mod Seats
