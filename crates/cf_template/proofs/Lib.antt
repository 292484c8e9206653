pub mod JsonLemmas
pub mod Counts
pub mod References
pub mod Escapes
pub mod Holes
pub mod Steps
pub mod Lengths
pub mod Ordered
