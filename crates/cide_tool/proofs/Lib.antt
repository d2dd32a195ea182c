mod BadNames
mod ExportFaults
mod Inputs
mod Runs
