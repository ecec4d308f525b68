pub mod SetLaws
pub mod OrderLaws
pub mod PlanLaws
pub mod WantedLaws
