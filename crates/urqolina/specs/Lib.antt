pub mod Calls
pub mod Computing
