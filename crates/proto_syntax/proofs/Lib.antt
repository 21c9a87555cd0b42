pub mod SkipLemmas
pub mod TokenLemmas
pub mod CutLemmas
pub mod ReadLemmas
pub mod BracketLemmas
pub mod FormLemmas
