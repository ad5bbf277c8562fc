pub mod Passing
pub mod SuppliedChecks
pub mod WrittenFile
pub mod WriteAnswers
pub mod Headed
pub mod Reading
