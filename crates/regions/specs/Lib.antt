pub mod Flags
pub mod View
pub mod Form
pub mod Held
pub mod Entries
pub mod Search
