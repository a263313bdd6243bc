pub mod Arrived
pub mod EpochIndices
pub mod MissedPositions
pub mod MissingEpochs
pub mod MissingIndices
pub mod MissingKeys
pub mod PassedKeys
