mod NameBytes
mod Headers
mod WorkedRows
mod Growing
pub mod Bodies
pub mod KindsOfLines
