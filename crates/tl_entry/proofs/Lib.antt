pub mod RisingLemmas
pub mod SetLemmas
pub mod GatherLemmas
pub mod OrderLemmas
pub mod TableLemmas
