pub mod Cases
pub mod Pmkids
pub mod Checks
pub mod Inversion
pub mod Verdicts
