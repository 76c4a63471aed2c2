pub mod Given
pub mod Fit
