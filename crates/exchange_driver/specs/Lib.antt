pub mod Answers
pub mod Calls
pub mod Drives
pub mod Meters
pub mod Moves
pub mod Wires
