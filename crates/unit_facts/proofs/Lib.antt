pub mod Alike
pub mod ClauseCodes
pub mod FewClauses
pub mod OfModel
pub mod ProjectPairs
pub mod Selected
pub mod Written
