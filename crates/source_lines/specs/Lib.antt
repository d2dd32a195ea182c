pub mod Buffers
pub mod Cuts
pub mod LineReads
pub mod Readers
pub mod Texts
