pub mod Heads
pub mod Masters
pub mod Rules
