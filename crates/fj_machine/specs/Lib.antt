pub mod Machine
pub mod MachineViews
pub mod Readers
