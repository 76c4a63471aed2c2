pub mod Places
pub mod Texts
pub mod Blocks
pub mod Styles
pub mod Names
pub mod Edited
pub mod Refusals
pub mod Group
