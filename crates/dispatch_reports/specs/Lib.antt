pub mod Reporting
pub mod Lines
