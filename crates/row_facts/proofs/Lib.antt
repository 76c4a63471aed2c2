pub mod Lists
pub mod Flat
pub mod Told
pub mod EachParagraph
pub mod EachSection
pub mod EachPlaced
pub mod EachNested
pub mod Containers
