pub mod Contents
pub mod First
pub mod Third
pub mod ByElement
