pub mod Pieces
pub mod Read
