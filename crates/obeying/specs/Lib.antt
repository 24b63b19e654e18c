pub mod Taking
pub mod Computing
