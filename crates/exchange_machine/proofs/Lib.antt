pub mod Answering
pub mod EventLemmas
pub mod RepeatLemmas
pub mod SettlingLemmas
pub mod SideLemmas
pub mod WayLemmas
pub mod HeadEnds
mod WorkedRows
