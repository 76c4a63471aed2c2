pub mod Inside
pub mod Same
pub mod Items
pub mod Heads
pub mod Headers
