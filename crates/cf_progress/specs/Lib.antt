pub mod Watched
pub mod Words
