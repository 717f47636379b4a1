pub mod Faults
pub mod Returns
pub mod RunFaults
pub mod Statuses
