pub mod Numbers
pub mod PlainPasts
pub mod Changes
pub mod Edits
pub mod LiveParagraph
pub mod PageReplies
pub mod Runs
pub mod Touched
