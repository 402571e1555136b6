pub mod Cases
pub mod Scanning
pub mod Unread
