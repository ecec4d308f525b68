pub mod EndLemmas
pub mod FetchingLemmas
pub mod PathLemmas
pub mod SinkLemmas
pub mod StepLemmas
