pub mod FieldValues
pub mod Truth
pub mod Wishes
