pub mod Adds
pub mod Parts
pub mod Shown
