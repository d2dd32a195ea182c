pub mod Composing
pub mod ExprTexts
pub mod FormulaTexts
pub mod Lists
pub mod MarkTexts
pub mod Parts
pub mod Presences
