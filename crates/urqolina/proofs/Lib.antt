pub mod CallLaws
pub mod Refusals
pub mod OneOutcome
pub mod RestLaws
