pub mod Head
pub mod Frames
pub mod Runs
pub mod Record
pub mod Faults
pub mod Opens
