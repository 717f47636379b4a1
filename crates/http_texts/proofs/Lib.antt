pub mod Agreeing
pub mod Alone
pub mod AnswerRows
pub mod Lengths
pub mod Forwarding
pub mod Planning
pub mod Putting
pub mod WorkedRows
