pub mod Held
pub mod Pairs
pub mod Ranks
