pub mod Places
pub mod Firsts
pub mod Bookmarks
pub mod Kept
