pub mod Changes
pub mod Members
pub mod Named
pub mod Spots
