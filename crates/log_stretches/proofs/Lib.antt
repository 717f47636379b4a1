pub mod ReadBack
pub mod Courses
