pub mod Settling
pub mod Sound
pub mod Receiving
pub mod Asking
