pub mod Jobs
pub mod Texts
pub mod Bounds
pub mod Holding
pub mod Computing
