pub mod Waits
pub mod Answers
pub mod Numbers
pub mod Polls
pub mod Probes
pub mod Notes
pub mod Names
