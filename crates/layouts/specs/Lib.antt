pub mod Mic
pub mod Timeout
