pub mod LabelLemmas
pub mod LeftLemmas
pub mod PlanAnswers
pub mod RunLabels
pub mod StepsLemmas
pub mod WantedLemmas
