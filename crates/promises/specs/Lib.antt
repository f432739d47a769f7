pub mod Promises
pub mod KnownBoards
