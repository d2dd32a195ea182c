pub mod Bytes
pub mod Finding
pub mod ToldTexts
