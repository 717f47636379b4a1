pub mod Kinds
pub mod Timed
pub mod Windows
