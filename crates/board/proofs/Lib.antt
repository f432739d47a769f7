pub mod RowLaws
pub mod RecordLaws
pub mod TurnLaws
