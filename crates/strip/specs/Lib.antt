pub mod Says
pub mod Leading
pub mod LeadingLaws
