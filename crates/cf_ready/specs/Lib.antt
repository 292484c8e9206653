pub mod Halved
pub mod Above
pub mod Smaller
pub mod Ready
