pub mod Counting
pub mod Entering
pub mod Finding
pub mod Joining
pub mod Labelling
pub mod Placing
