pub mod Down
pub mod Passing
pub mod Working
