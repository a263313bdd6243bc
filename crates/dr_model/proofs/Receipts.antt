pub mod Covered
pub mod Sent
pub mod Truth
pub mod SaidReceipts
pub mod Stays
pub mod Arrived
