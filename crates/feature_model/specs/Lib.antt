pub mod NamedSelections
