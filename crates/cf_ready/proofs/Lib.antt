pub mod Halves
pub mod Counted
pub mod Ranked
pub mod Flagged
