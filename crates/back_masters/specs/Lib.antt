pub mod Masters
