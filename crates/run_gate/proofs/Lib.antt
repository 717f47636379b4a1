pub mod Adding
pub mod Crosses
pub mod Running
mod WorkedRows
