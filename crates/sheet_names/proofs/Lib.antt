pub mod StyleLemmas
pub mod SheetLemmas
