mod NameLemmas
mod ReachLemmas
mod WordLemmas
mod NeedLemmas
