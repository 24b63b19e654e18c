pub mod Laws
pub mod TickLaws
pub mod TickSound
pub mod TickRecord
pub mod LastTick
pub mod Cases
