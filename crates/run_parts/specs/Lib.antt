pub mod Queues
pub mod Gauges
pub mod Faults
pub mod Parts
pub mod Sizes
pub mod Binds
pub mod Logging
pub mod Crews
