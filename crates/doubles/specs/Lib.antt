pub mod Doubles
pub mod Measures
pub mod Computing
