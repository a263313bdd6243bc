pub mod Behind
pub mod Exits
pub mod FrameByFrame
pub mod FilledAreas
pub mod LoadedBoxes
mod Counters
mod Lives
mod LowerHalves
mod Reopening
pub mod OneStore
pub mod OpenedAreas
pub mod OpenedBoxes
pub mod Replacing
pub mod Rounds
pub mod Sent
pub mod Serve
pub mod Settled
mod StorePlaces
pub mod Ends
