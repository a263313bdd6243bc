pub mod Lengths
pub mod Steps
pub mod Printed
pub mod Read
pub mod Viewed
mod Pieces
pub mod Places
mod Standing
mod Sample
mod TextFaults
pub mod Faulty
pub mod Halves
pub mod Known
