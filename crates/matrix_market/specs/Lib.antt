pub mod SortedPairs
pub mod Lines
pub mod Blocks
pub mod Made
