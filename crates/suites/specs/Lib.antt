pub mod Suite
pub mod Tables
