mod Opened
mod PartsSaid
mod PartRuns
mod PartsCut
mod Beginnings
mod Completing
mod SyncCompleting
mod Quiet
mod Told
mod Syncs
mod SyncRuns
mod Linking
pub mod Wholeness
pub mod KnownWorlds
pub mod WholeRuns
pub mod Talks
mod Talking
mod Checks
