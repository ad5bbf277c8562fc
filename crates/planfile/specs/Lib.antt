pub mod Supplied
pub mod Filed
pub mod LentPlans
