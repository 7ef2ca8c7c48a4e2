pub mod Exchange
pub mod Exchanging
pub mod Recoded
