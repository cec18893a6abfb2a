pub mod ListLaws
pub mod RangeLaws
pub mod SumLaws
pub mod PartLaws
pub mod RunLaws
pub mod CallCases
