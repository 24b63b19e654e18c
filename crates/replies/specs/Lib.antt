pub mod Replies
pub mod Computing
