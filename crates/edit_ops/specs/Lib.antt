pub mod PlainOps
