pub mod ValueLaws
pub mod Cases
