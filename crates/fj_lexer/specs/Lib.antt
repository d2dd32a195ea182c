pub mod Ends
pub mod Kinds
pub mod Lexing
pub mod Pieces
pub mod Skipping
