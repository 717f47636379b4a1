pub mod Connecting
pub mod Seating
mod WorkedRows
