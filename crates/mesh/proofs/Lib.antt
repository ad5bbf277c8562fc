pub mod Adjacent
pub mod Bisection
pub mod Lists
