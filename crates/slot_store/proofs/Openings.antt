pub mod TablesRead
pub mod AtRestRead
pub mod OpenedStore
pub mod NewerRead
pub mod EmptyRead
pub mod Answered
pub mod Reported
