pub mod OverlapLemmas
pub mod Places
pub mod ReachLemmas
pub mod TreeLemmas
pub mod TwiceLemmas
