pub mod Results
pub mod Standing
pub mod Runs
pub mod Shortened
