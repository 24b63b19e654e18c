pub mod Judging
pub mod Changing
pub mod Answers
pub mod Computing
