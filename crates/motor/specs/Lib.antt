pub mod Switches
pub mod Sound
pub mod Judged
pub mod Computing
