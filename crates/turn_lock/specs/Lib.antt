pub mod History
pub mod Numbers
pub mod Rule
pub mod Plays
pub mod Seats
