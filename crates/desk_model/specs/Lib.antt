pub mod Desk
pub mod Replies
pub mod Script
pub mod Runs
