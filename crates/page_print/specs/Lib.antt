pub mod Headers
pub mod Printed
