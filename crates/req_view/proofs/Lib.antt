pub mod AnswerFronts
pub mod Copies
pub mod Fronts
pub mod Lookups
pub mod Names
pub mod Parts
pub mod WorkedRows
