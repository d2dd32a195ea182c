pub mod Among
pub mod VariantPairs
pub mod Cleared
