pub mod PatternLemmas
pub mod Usable
pub mod Ascending
