pub mod Merging
pub mod Lists
pub mod Numbers
pub mod Checks
pub mod Pairings
pub mod Merged
