pub mod Maybe
pub mod Numbers
pub mod Pieces
pub mod Equality
pub mod Search
pub mod Wrote
