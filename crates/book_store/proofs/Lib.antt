mod Laid
mod Slots
mod Sound
mod Names
mod Pieces
mod RowTables
mod Bodies
mod Staged
mod Tabled
mod ShownRows
pub mod Composed
mod Absent
mod Taken
mod Faultless
mod FaultlessBooks
mod RowPlans
mod Planning
mod RowRecords
pub mod Books
pub mod Sayings
pub mod Openings
