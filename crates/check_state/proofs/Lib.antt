pub mod Runs
pub mod Walk
pub mod Steps
pub mod Parts
pub mod Shortened
