pub mod Raws
