pub mod Displays
pub mod Texts
pub mod Fronts
pub mod Pieces
pub mod Written
pub mod Stated
