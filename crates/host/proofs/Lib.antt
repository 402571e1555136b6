pub mod Cases
pub mod Statuses
