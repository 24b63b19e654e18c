pub mod DoubleLaws
pub mod SumLaws
pub mod ExactLaws
pub mod Cases
