pub mod Said
pub mod ModelLemmas
pub mod JoinLemmas
pub mod TextLemmas
pub mod TableLemmas
pub mod RecordingLemmas
pub mod PlanLemmas
