pub mod Bytes
pub mod First
pub mod Shapes
pub mod Grammar
pub mod Laws
pub mod KindName
