pub mod Fewest
pub mod DisplayPairs
