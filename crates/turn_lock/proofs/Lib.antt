pub mod Histories
pub mod Gaining
pub mod Sitting
pub mod Turning
pub mod Parting
pub mod Calling
pub mod Crossing
pub mod Joined
