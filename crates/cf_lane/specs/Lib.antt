pub mod Log
pub mod Lanes
pub mod Calling
