pub mod View
pub mod Form
pub mod Effects
