pub mod Domains
pub mod Patterns
pub mod Vectors
pub mod Audits
