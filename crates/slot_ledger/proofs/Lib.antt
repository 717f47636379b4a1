pub mod Standing
pub mod Rising
pub mod Stretches
pub mod Searching
pub mod Keeping
pub mod Finding
pub mod Indexing
pub mod Counting
