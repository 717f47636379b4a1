pub mod Lateness
pub mod Reports
pub mod Tests
pub mod Groups
pub mod Worked
pub mod Running
pub mod Table
pub mod Certificates
