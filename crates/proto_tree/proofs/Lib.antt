pub mod PartLemmas
pub mod SuffixLemmas
pub mod ItemEnds
