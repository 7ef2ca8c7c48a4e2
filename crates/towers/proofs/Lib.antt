pub mod Linear
pub mod Order
pub mod Unique
pub mod Columns
pub mod Finite
mod Enum
mod Root
mod Swap
mod Iso
pub mod Halves
mod Carry
mod Index
pub mod Octics
mod Compare
mod Complete
pub mod OneGoes
pub mod Reverses
pub mod Kept
mod Steps
mod Fields
pub mod TowerField
pub mod Given
pub mod Known
mod Through
mod Arrives
mod Boxing
