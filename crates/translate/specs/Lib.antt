pub mod Written
pub mod Parts
pub mod Answers
pub mod AnswersSettle
