pub mod Bytes
pub mod Value
pub mod Status
pub mod Numbers
pub mod Entry
pub mod Reading
pub mod EntryReading
