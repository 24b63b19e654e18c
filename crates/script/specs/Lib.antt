pub mod Output
pub mod Stream
pub mod Computing
