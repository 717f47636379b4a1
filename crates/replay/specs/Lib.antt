pub mod Defaults
pub mod TraceTexts
pub mod Transfers
pub mod Replays
pub mod Calls
pub mod Statuses
