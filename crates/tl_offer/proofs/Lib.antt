pub mod PinLemmas
pub mod OfferLemmas
