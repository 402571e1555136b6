pub mod Cases
pub mod Standing
pub mod Walk
pub mod Written
