pub mod Changes
pub mod Free
pub mod Differ
pub mod Fitting
