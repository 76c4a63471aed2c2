pub mod Stands
pub mod Found
pub mod Unique
pub mod HeldFrom
pub mod Runs
pub mod Wrap
