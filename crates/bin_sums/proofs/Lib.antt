pub mod GatedLemmas
pub mod RangeLemmas
pub mod ReachedLemmas
pub mod IntegrationLemmas
pub mod PhaseLemmas
pub mod ScanLemmas
