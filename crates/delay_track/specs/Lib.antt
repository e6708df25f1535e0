pub mod Model
pub mod StationModel
pub mod Track
pub mod Runs
pub mod Piece
