pub mod Members
pub mod Without
pub mod ByNames
pub mod Walking
pub mod Nearest
