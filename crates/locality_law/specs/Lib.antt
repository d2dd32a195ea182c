pub mod Apart
pub mod Sample
pub mod Seen
