pub mod Changes
pub mod Hidden
pub mod Rising
