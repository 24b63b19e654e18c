pub mod ReadLaws
pub mod StencilLaws
pub mod FormLaws
pub mod BareLaws
pub mod Laws
pub mod Cases
pub mod OrderLaws
pub mod CardLaws
