pub mod Boxes
pub mod Turns
