pub mod Workspace
pub mod Pieces
pub mod Products
pub mod Known
pub mod AnalysisParts
