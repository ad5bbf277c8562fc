pub mod Arrays
pub mod Climbing
pub mod Layouts
