pub mod Aes
pub mod Sm4
pub mod Counter
pub mod Keys
pub mod Letters
