pub mod Values
pub mod Settings
pub mod Computing
