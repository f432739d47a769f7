pub mod Listed
pub mod KindLaws
