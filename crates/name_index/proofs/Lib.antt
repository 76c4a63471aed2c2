pub mod Found
pub mod Scanned
pub mod Changed
pub mod Placed
