pub mod Room
pub mod RoomStays
pub mod Apart
pub mod Spare
pub mod Stacked
pub mod Standing
pub mod Ready
pub mod Worlds
