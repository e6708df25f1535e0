pub mod Words
pub mod Tables
pub mod From
pub mod Packed
pub mod Kinds
