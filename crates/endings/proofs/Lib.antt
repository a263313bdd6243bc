pub mod Closing
pub mod PeerNames
