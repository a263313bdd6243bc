pub mod Draws
pub mod Hashes
pub mod Mechanism
pub mod DrawLaws
pub mod Sizes
pub mod MechanismLaw
