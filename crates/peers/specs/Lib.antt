pub mod View
pub mod Promises
pub mod Alike
