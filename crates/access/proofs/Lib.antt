pub mod Ordinals
pub mod Equals
pub mod Patterns
pub mod Vectors
pub mod Audits
pub mod Laws
