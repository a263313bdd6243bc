pub mod Judging
pub mod Rising
