pub mod Ops
pub mod Fields
pub mod Requests
pub mod BadLines
pub mod Reads
pub mod Refusals
pub mod Written
