mod TrimLemmas
mod GlobLemmas
mod WriteLemmas
mod LineLemmas
mod ReadLemmas
pub mod PinsLaws
mod ChangeLemmas
mod OfferLemmas
mod ViewLemmas
mod KnownLemmas
