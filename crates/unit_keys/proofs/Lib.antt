pub mod Grown
pub mod Places
pub mod Signatures
