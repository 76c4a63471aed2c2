pub mod PartRows
pub mod RestOf
pub mod NamePlaces
pub mod State
