pub mod CellLaws
pub mod CommonLaws
pub mod RankLaws
pub mod RowLaws
pub mod SequenceLaws
pub mod TableLaws
