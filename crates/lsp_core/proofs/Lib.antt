pub mod CoreLemmas
pub mod FaultLemmas
pub mod StampLemmas
pub mod FilesLemmas
mod ClientLemmas
