pub mod File
pub mod Search
pub mod Written
