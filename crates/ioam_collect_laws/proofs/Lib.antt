mod EnclosedLaws
pub mod ExportLaws
mod FewLaws
mod FlowsLaws
pub mod FrontLaws
mod HopLaws
mod OrderLaws
pub mod ReadLaws
mod RunLaws
mod TextLaws
mod TimesLaws
mod TrailLaws
pub mod WholeLaws
