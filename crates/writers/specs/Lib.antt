pub mod Header
pub mod Second
pub mod SecondRead
pub mod Comeback
pub mod ComebackRead
