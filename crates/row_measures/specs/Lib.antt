pub mod RowNames
pub mod RowCounts
