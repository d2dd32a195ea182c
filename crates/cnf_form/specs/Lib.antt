pub mod GateClauses
pub mod Reaching
