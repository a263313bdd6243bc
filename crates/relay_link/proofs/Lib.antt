pub mod Connections
pub mod Sending
pub mod Bringing
pub mod Requests
pub mod Playing
