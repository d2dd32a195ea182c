pub mod AsciiWords
pub mod Identifiers
mod Reserved
pub mod WordTokens
