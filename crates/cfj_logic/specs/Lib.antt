pub mod Formulas
pub mod Kept
pub mod Logs
pub mod Selections
pub mod Sides
pub mod UnitClauses
pub mod Validity
