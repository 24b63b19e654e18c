pub mod Cases
pub mod RunLaws
pub mod TickBounds
