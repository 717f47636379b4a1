pub mod Busying
pub mod Paying
pub mod Events
pub mod Ends
mod Walking
pub mod Weighing
pub mod Booking
pub mod Turning
pub mod Owing
pub mod Turns
mod WorkedRows
