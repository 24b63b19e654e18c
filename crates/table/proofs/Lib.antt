pub mod PieceLaws
pub mod SealLaws
pub mod LoopLaws
pub mod TableLaws
pub mod HeadLaws
pub mod KeptLaws
pub mod Cases
