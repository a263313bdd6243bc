mod FirstNonzero
mod Pieces
mod FreeNumbers
mod Entries
mod Printing
mod Cuts
mod Steps
mod Turns
pub mod Planned
pub mod Dropped
pub mod TableTexts
pub mod LawfulEntries
pub mod FreeEnough
pub mod Renumbered
pub mod PlanEntries
pub mod ChangedPlaces
pub mod Filled
