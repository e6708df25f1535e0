pub mod Rows
pub mod FileText
pub mod WritesLemmas
pub mod FileLemmas
pub mod PlanHead
pub mod PlanText
pub mod PlanCounts
