pub mod Answer
pub mod AnswerHeads
pub mod Heads
pub mod Request
pub mod Spans
pub mod Target
