pub mod GoingLaws
pub mod FoundLaws
