pub mod Fields
pub mod Once
