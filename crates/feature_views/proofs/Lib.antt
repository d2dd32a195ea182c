pub mod Kept
pub mod KeptBodies
pub mod Presence
pub mod SelectedBodies
pub mod Sublists
pub mod Variants
