pub mod Text
pub mod Computing
