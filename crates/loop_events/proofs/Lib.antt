pub mod Crosses
pub mod Noting
