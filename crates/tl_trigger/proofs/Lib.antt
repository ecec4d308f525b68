pub mod FormatLines
pub mod OnceLemmas
