pub mod Ending
pub mod Entering
pub mod Following
pub mod LeastSelection
pub mod Measuring
pub mod Replaying
pub mod Searching
pub mod Trailing
