pub mod OutLaws
pub mod TotalLaws
pub mod ListLaws
pub mod EnoughLaws
pub mod ScriptLaws
pub mod Cases
