pub mod Asides
pub mod Askings
pub mod Calls
pub mod Failures
pub mod States
pub mod Wants
