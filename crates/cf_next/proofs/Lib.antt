pub mod Advancing
mod AllDue
pub mod Asking
mod Calls
pub mod Creating
mod Ended
pub mod FactsTold
mod FailedOnce
pub mod FirstBegun
mod FirstNamed
mod FirstOpen
mod FirstReady
mod Firsts
mod Followed
mod GoingForward
mod InOrder
pub mod Lending
pub mod LookingUp
pub mod Marked
pub mod Needing
mod Offered
mod Opening
mod OnStack
pub mod OneCause
mod Orders
pub mod Removing
pub mod Repeating
pub mod Restored
pub mod Retaining
pub mod FirstLeft
mod FirstRestore
mod GivingBack
pub mod RollingBack
mod Same
pub mod Tallying
