pub mod Table
pub mod Live
pub mod Noted
pub mod Set
pub mod Fits
