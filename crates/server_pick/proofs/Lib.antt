pub mod Preferred
pub mod Filled
pub mod Chosen
pub mod Taking
pub mod Alone
pub mod Marks
