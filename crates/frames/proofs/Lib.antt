pub mod Chain
pub mod Steps
pub mod Inner
pub mod Vectors
