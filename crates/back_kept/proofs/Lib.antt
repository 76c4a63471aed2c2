pub mod Apart
pub mod Marks
pub mod Told
pub mod Counts
pub mod Names
pub mod Bookmarks
pub mod Everything
