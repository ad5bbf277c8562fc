pub mod Running
pub mod ColumnSteps
pub mod AllColumns
pub mod Checks
pub mod PassSteps
pub mod SolveChecks
pub mod HeldChecks
pub mod TwoColumns
