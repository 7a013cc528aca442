pub mod Items
pub mod PlanText
pub mod TextPlan
