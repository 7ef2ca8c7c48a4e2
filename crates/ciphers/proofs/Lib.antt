pub mod Made
pub mod Doubling
pub mod Schedule
pub mod Sm4Steps
pub mod Padding
pub mod CounterBlocks
