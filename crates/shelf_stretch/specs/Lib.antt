pub mod Fronts
pub mod Stretch
