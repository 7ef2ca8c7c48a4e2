pub mod Bearings
pub mod Lines
pub mod Printed
