pub mod Lines
pub mod Texts
pub mod Words
pub mod Numbers
pub mod Shapes
