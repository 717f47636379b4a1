pub mod Crosses
pub mod Standing
