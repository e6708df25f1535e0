pub mod RuleSteps
pub mod Closes
pub mod Totals
pub mod Posting
pub mod Cells
