pub mod ReadBack
pub mod Reading
pub mod Utf8Texts
pub mod OneLine
