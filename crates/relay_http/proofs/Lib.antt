pub mod Failing
mod Holding
pub mod Keeping
pub mod Marking
pub mod Seeing
pub mod Telling
pub mod Thinning
pub mod Turning
pub mod Wanting
pub mod WorkedRows
