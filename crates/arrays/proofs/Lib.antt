pub mod Pads
pub mod Fills
