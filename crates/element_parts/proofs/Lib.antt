pub mod Inner
pub mod TagNumbers
pub mod Names
