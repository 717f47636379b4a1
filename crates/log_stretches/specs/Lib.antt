pub mod Stretches
pub mod ReadBack
pub mod Courses
pub mod Orders
pub mod Services
