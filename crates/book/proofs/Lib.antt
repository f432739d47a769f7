pub mod SetLaws
pub mod FieldLaws
pub mod RecordLaws
pub mod LoopLaws
pub mod KindsLaws
