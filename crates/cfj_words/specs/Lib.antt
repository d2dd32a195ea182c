pub mod Characters
pub mod Lexemes
pub mod Lists
pub mod Names
pub mod Spellings
pub mod Tokens
pub mod formers
