pub mod WorkedRows
pub mod Tabled
pub mod Runners
pub mod Patience
pub mod Moments
