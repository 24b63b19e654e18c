pub mod Running
pub mod Computing
