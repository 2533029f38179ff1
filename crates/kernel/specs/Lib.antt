pub mod View
pub mod Form
pub mod Valid
pub mod Answers
pub mod Promises
pub mod Inside
