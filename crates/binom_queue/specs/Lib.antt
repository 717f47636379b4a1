pub mod Alone
pub mod Queue
pub mod Trees
