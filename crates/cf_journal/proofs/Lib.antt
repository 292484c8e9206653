pub mod Moments
mod Bodies
mod Pieces
mod Appending
mod Entries
