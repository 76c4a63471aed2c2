pub mod Unwrapped
pub mod Set
pub mod Outside
pub mod Wrapped
