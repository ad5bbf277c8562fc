pub mod Fields
pub mod Heads
