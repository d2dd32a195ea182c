pub mod NamedSets
pub mod Places
pub mod Spelling
