pub mod Numbers
pub mod Spans
pub mod Texts
pub mod Quotes
