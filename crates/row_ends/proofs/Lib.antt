pub mod EndRows
