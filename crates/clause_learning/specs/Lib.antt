pub mod Decided
pub mod Denials
