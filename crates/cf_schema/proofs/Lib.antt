pub mod JsonLemmas
pub mod Spelled
pub mod Naming
pub mod Equal
pub mod Distinct
