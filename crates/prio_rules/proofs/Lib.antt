pub mod Folding
pub mod Orders
pub mod WorkedRows
