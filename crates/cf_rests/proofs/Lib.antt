pub mod Rested
pub mod Exported
pub mod Viewed
pub mod OfLists
pub mod Sorted
