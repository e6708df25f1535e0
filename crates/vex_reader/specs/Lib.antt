pub mod Fault
pub mod Shapes
pub mod Reading
pub mod ReadingState
pub mod Grammar
pub mod Laws
pub mod Counts
pub mod KindName
