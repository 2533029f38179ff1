pub mod Encoding
pub mod Written
pub mod Made
pub mod Runs
