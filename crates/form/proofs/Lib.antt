pub mod TableLaws
pub mod OneAnswer
