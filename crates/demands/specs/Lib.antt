pub mod Served
pub mod Isolation
pub mod InstalledKey
pub mod Edges
pub mod Coincide
pub mod Exported
pub mod ReadsBack
pub mod ShutsOut
