pub mod Shows
pub mod KeyFrom
pub mod Displays
