pub mod Cells
pub mod Tickets
pub mod Places
pub mod Counts
pub mod Ledgers
