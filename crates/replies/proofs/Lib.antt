pub mod Cases
pub mod ReplyLaws
