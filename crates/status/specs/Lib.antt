pub mod Status
pub mod Computing
