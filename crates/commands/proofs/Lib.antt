pub mod ChannelLaws
pub mod FlagLaws
pub mod HeadOrderLaws
