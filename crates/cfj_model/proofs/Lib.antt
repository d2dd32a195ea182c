mod SizeSums
pub mod ExprCases
pub mod FormatTwo
pub mod Members
pub mod NameSets
pub mod Numbering
pub mod Paths
pub mod Positions
