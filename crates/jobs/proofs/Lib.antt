pub mod Cases
pub mod JobLaws
pub mod OutLaws
pub mod NetLaws
pub mod HoldLaws
