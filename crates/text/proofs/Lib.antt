pub mod Sequences
pub mod Decimals
pub mod Lines
pub mod Parts
pub mod Inputs
pub mod Bound
pub mod Answers
