pub mod Further
pub mod Rooms
