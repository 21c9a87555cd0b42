pub mod DiagOrder
pub mod ProblemOrder
pub mod Ordered
pub mod PairLemmas
pub mod LastParts
pub mod ApartNames
pub mod Statements
