pub mod FoldLemmas
pub mod FormulaGates
mod IndexLemmas
pub mod ValueLemmas
