pub mod Walks
pub mod Digits
