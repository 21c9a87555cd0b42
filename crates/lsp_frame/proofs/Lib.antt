pub mod CountsLemmas
mod Digits
mod Faults
mod FoundHeaders
mod Shown
mod Fronts
mod Headers
mod Lines
mod MemoryReads
mod Parts
pub mod Splits
pub mod StreamLemmas
mod WorkedStreams
mod Grammar
mod Ends
mod WrittenFrames
