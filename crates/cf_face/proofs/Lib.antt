pub mod Texts
pub mod Spaced
pub mod Joined
pub mod Rising
