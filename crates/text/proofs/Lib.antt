pub mod TextLaws
pub mod BackLaws
pub mod Cases
pub mod SameLaws
