pub mod Ahead
mod Areas
pub mod Beginnings
pub mod Drawing
mod Exchanged
pub mod Lawful
pub mod Later
pub mod Lifted
mod LongTexts
pub mod OnePacket
pub mod Openings
pub mod Readiness
pub mod Renewing
pub mod Reopening
mod Replaced
mod SameRecord
pub mod Receipts
mod Settled
pub mod Kept
pub mod Spending
pub mod Spends
pub mod Standing
pub mod Syncs
