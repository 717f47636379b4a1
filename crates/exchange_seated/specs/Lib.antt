pub mod Connections
pub mod Seats
pub mod Notices
