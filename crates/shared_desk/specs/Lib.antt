pub mod Answers
pub mod Changes
pub mod Replies
pub mod Seats
pub mod Tails
