pub mod Keeps
pub mod Acting
