pub mod Scan
pub mod Times
pub mod Noting
pub mod Within
