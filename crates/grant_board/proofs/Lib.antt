pub mod Grants
mod Codes
mod Moving
pub mod Finding
mod Keeping
mod Joining
mod Ending
mod Seating
mod Counting
pub mod Reading
mod WorkedRows
