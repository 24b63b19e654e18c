pub mod NumberLaws
pub mod TakingLaws
