pub mod Numbers
pub mod Fields
pub mod Judging
pub mod Steps
pub mod Parts
pub mod Faults
pub mod Computing
