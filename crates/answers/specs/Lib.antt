pub mod Numbered
pub mod Refused
pub mod RefusedLaws
pub mod Shown
