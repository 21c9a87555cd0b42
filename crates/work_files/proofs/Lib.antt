pub mod PathOrder
pub mod MapOrder
pub mod FilesLemmas
pub mod DocumentLemmas
pub mod WorkspaceLemmas
pub mod WorkspaceOrder
pub mod TextChanges
mod RootsLemmas
