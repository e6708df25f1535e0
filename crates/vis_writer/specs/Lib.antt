pub mod Cells
pub mod Writes
pub mod PlanCells
pub mod Texts
