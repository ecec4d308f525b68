pub mod Adding
pub mod Labels
pub mod PlanLaws
