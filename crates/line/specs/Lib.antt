pub mod Shapes
pub mod Tails
pub mod Forms
pub mod Made
pub mod Computing
