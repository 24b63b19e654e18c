pub mod Lines
pub mod Listing
pub mod Turns
pub mod Script
pub mod Computing
