pub mod Entering
pub mod Extending
pub mod Starting
