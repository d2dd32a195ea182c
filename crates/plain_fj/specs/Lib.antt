pub mod Alternatives
pub mod Found
pub mod Breaking
