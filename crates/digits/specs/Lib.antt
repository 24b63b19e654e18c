pub mod Bytes
pub mod Words
pub mod Places
pub mod Computing
