pub mod Assuming
pub mod Choosing
pub mod Learning
pub mod Leaving
pub mod Marking
pub mod Resolving
pub mod Valuing
pub mod Watching
