pub mod Cases
pub mod RoundTrip
pub mod ProgressLaws
