pub mod Items
pub mod Masters
