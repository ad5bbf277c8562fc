pub mod Rows
pub mod Numbering
