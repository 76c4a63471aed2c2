pub mod Lineage
pub mod Effective
pub mod Changes
pub mod Lengths
pub mod Dims
pub mod Masters
