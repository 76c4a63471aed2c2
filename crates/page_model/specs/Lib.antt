pub mod Frames
pub mod BodyRows
pub mod Breaking
pub mod Pages
pub mod Bodies
pub mod Table
