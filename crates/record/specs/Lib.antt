pub mod Record
pub mod Progress
pub mod Computing
