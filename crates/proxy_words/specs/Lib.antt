pub mod Text
pub mod Names
pub mod Numerals
pub mod Times
pub mod Parts
