pub mod Level
pub mod HeldFrom
