pub mod LetterLaws
pub mod FindingLaws
pub mod Cases
