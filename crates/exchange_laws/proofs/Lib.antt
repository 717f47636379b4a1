mod Composing
mod Counting
mod Reading
mod Serving
pub mod Answering
pub mod Bodies
pub mod Naming
pub mod MessageReading
pub mod Replying
pub mod Rereading
mod Connecting
mod Meaning
