pub mod Cases
pub mod WordLaws
pub mod PartLaws
pub mod Signed
pub mod PutLaws
pub mod SetLaws
pub mod CountLaws
