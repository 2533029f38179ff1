pub mod Back
pub mod Checks
pub mod Levels
pub mod Calls
pub mod Building
pub mod HandOuts
pub mod Places
