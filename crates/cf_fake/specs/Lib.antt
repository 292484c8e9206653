pub mod Sound
pub mod Refusable
pub mod Plan
pub mod Late
pub mod Call
pub mod Kept
pub mod Codes
