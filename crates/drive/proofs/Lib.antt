pub mod NumberLaws
pub mod Laws
pub mod KeptSound
pub mod Cases
