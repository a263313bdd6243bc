pub mod Keeping
pub mod ActsFollowing
pub mod Posting
pub mod SaidOpened
