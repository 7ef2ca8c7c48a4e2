pub mod Octics
pub mod Division
