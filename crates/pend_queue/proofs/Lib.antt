pub mod Ascending
pub mod Inserted
pub mod Without
pub mod Merged
mod Falling
mod WorkedRows
