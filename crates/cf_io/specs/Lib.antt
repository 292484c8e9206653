pub mod Library
pub mod Sink
pub mod Stores
