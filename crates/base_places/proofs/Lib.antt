pub mod Bits
mod Aheads
