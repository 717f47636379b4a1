pub mod Admissions
pub mod Descriptors
pub mod Hopeless
pub mod Leaving
pub mod Looks
pub mod Outsides
pub mod Timed
