pub mod Runs
pub mod Repeats
pub mod Entry
pub mod Answers
pub mod Settles
