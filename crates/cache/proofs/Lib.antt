pub mod Cases
pub mod File
pub mod Chunks
pub mod Search
pub mod Laws
pub mod Written
