pub mod Checks
pub mod Endings
pub mod Lines
pub mod NamedParts
pub mod ProjectTexts
pub mod Refusals
