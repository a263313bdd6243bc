pub mod Names
pub mod Placed
pub mod Apart
pub mod Changed
pub mod InRooms
pub mod Rising
pub mod Numbered
pub mod GuardGrammar
pub mod BoxGrammar
pub mod RecordLaw
pub mod Sizes
pub mod TakenBoxes
pub mod Judged
pub mod KeptKeys
pub mod Lawfully
pub mod Served
pub mod Counted
mod Witness
