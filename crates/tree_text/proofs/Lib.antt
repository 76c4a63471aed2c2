pub mod ConstructsWritten
pub mod NodesWritten
pub mod TreeWritten
pub mod PieceLemmas
