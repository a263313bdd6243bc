mod VersionLimits
mod Passing
mod FieldGrammars
mod ListGrammars
mod GroupGrammars
mod Items
mod Waiting
mod RecordGrammar
mod Lasts
mod KeptFromLawful
mod FromLawful
mod KeptToLawful
mod ToLawful
mod RecordLaw
pub mod RelayGrammar
mod OtherTexts
mod Places
pub mod Sizes
