pub mod Codes
pub mod Limits
