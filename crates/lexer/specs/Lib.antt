pub mod Suffixes
