pub mod Header
pub mod Shape
pub mod Agreement
pub mod Place
