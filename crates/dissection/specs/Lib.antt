pub mod Numbers
pub mod Changes
pub mod Spread
pub mod Standing
pub mod Rooted
pub mod Degrees
pub mod Blocks
