pub mod Fault
pub mod Json
pub mod Reading
pub mod Past
pub mod Spelling
pub mod Change
pub mod Kinds
