pub mod View
pub mod Form
pub mod Held
pub mod Buffers
pub mod Entries
pub mod Effects
