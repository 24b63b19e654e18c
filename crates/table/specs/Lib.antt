pub mod Layout
pub mod Marking
pub mod Sound
pub mod Computing
