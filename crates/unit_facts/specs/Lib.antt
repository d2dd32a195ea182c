pub mod Diagnostics
pub mod Facts
pub mod Findings
pub mod Judgements
pub mod Pairs
pub mod Reach
pub mod Units
