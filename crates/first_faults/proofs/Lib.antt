pub mod LeastLemmas
