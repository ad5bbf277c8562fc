pub mod Cuts
pub mod Words
pub mod Suffixes
pub mod Numbers
