pub mod Along
pub mod Refused
pub mod Shown
pub mod Leaving
pub mod Joining
