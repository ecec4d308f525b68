pub mod Hits
pub mod Form
pub mod Answers
pub mod Inside
pub mod Reaches
