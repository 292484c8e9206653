pub mod Lane
pub mod Answered
pub mod Name
pub mod Move
pub mod Fence
pub mod Look
pub mod Tells
pub mod Shipped
