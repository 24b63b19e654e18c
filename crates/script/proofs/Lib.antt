pub mod Cases
pub mod FeedLaws
pub mod Streaming
