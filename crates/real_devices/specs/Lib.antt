pub mod Begun
pub mod FileShelfState
pub mod Opened
pub mod Placed
pub mod StdSinkState
