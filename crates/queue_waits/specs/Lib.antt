pub mod Order
pub mod Links
pub mod Lines
pub mod Waitlists
pub mod InQueues
pub mod Falls
