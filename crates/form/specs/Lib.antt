pub mod Table
pub mod Computing
