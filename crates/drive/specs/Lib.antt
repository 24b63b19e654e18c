pub mod Numbers
pub mod Drives
pub mod Computing
