mod Lists
pub mod Laws
mod Known
pub mod AsEnd
