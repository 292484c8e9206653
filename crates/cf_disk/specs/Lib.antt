pub mod Disk
pub mod Calls
pub mod Stays
pub mod Memory
pub mod Fuse
