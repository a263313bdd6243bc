pub mod HeldValues
pub mod LaterSecrets
pub mod ScheduledSecrets
