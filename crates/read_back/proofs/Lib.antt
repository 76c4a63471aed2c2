pub mod Numbers
pub mod Declared
pub mod Tree
pub mod Text
pub mod Draft
pub mod Report
pub mod Whole
