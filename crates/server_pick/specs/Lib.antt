pub mod Sets
pub mod Order
pub mod Picked
pub mod Heads
