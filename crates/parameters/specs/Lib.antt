pub mod Parameters
pub mod ParametersInverse
