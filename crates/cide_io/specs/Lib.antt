pub mod Faults
pub mod Known
pub mod Rooms
pub mod Changes
pub mod Memory
