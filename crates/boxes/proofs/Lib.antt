pub mod Bytes
pub mod Inverses
pub mod Maps
