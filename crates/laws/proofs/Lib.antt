pub mod Runs
pub mod Full
pub mod Denials
pub mod Starred
pub mod Made
pub mod Plainly
pub mod HandOuts
