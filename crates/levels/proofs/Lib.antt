pub mod Back
pub mod Effects
