pub mod Extending
pub mod Forming
pub mod Marking
pub mod Settling
pub mod Tables
pub mod UnitSteps
pub mod Written
