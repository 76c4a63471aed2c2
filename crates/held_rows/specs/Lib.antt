pub mod HeldFrom
pub mod Wrapping
