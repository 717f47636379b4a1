pub mod Statuses
pub mod Taken
