pub mod CloseUp
pub mod Parts
pub mod Back
pub mod Links
pub mod Entries
pub mod Effects
