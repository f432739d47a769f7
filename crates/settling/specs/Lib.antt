pub mod Settles
pub mod SettlesLaws
pub mod Stretches
pub mod Examples
