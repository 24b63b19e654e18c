pub mod Finding
pub mod Computing
