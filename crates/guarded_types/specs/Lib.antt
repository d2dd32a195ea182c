pub mod Along
pub mod Declarations
pub mod Fields
pub mod Within
