pub mod PathLines
pub mod OpenLemmas
