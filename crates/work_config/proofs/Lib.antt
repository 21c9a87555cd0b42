mod RootOrder
mod ConfigLemmas
pub mod SendingLemmas
mod FaultLemmas
