pub mod FieldLaws
pub mod JudgeLaws
pub mod StepLaws
pub mod MadeLaws
pub mod FrontLaws
pub mod ExactLaws
pub mod FaultLaws
pub mod Cases
