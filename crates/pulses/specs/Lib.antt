pub mod Ticks
pub mod Computing
