pub mod Histories
pub mod Turns
pub mod LoggedStates
pub mod Fates
pub mod Timeouts
