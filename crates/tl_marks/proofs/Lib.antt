mod ReadLemmas
mod FormLemmas
mod PlatformLemmas
mod FollowLemmas
mod WriteLemmas
