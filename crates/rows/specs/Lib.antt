pub mod Held
pub mod HeldLaws
pub mod Loads
pub mod LoadsLaws
pub mod Writes
pub mod WritesLaws
