pub mod Runs
pub mod Claims
pub mod Starred
pub mod Made
