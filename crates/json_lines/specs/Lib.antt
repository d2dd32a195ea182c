pub mod Canonical
pub mod LineTexts
