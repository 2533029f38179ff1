pub mod Performs
pub mod Loops
pub mod Apart
pub mod Decodes
pub mod Places
pub mod Afterwards
