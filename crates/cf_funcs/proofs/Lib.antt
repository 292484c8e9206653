pub mod Found
pub mod Digits
pub mod Parts
pub mod Trims
