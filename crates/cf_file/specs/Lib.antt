pub mod File
pub mod Disk
pub mod Memory
pub mod Real
