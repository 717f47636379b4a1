pub mod Cuts
pub mod WorkedRows
pub mod Values
pub mod Limits
