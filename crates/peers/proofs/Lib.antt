pub mod Cases
pub mod Counting
pub mod Searching
pub mod Filling
pub mod Showing
pub mod Promised
pub mod Laws
pub mod Few
