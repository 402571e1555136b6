pub mod Body
pub mod Met
pub mod Walk
pub mod Lies
pub mod Elements
