pub mod Accepting
pub mod ClauseLiterals
pub mod Consequences
pub mod FirstValues
pub mod Least
