pub mod Words
pub mod Lemmas
pub mod Cleanups
pub mod Statuses
pub mod HidSeen
pub mod HidProps
pub mod HidCalls
pub mod Rows
pub mod AdvSteps
pub mod BackSteps
pub mod BackLaws
pub mod FitKept
pub mod Stacks
pub mod Outcomes
pub mod Moving
pub mod MovesStatus
pub mod WholeKept
pub mod RowsBooked
pub mod BlameStays
pub mod Settling
pub mod GoingOn
pub mod BlameFailed
pub mod BeginEvents
pub mod Always
pub mod KeepSound
pub mod Operations
mod Tries
mod InFlight
mod MoreApart
mod MoreLives
mod MoreStacks
pub mod GoingTold
pub mod NamedLanes
pub mod Rowed
pub mod Each
pub mod Alike
pub mod Failing
pub mod Heard
pub mod Turned
pub mod Sent
pub mod Counted
pub mod Few
pub mod Come
pub mod FewAhead
pub mod FewCleaned
pub mod FewUnmade
pub mod FewMade
pub mod FewLeft
pub mod FewCalls
pub mod ToldRows
pub mod ToldCalls
pub mod ToldMade
pub mod ToldCleanup
pub mod ToldRemoved
pub mod ToldDone
