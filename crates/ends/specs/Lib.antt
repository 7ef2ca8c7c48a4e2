pub mod Work
pub mod Table
pub mod Letters
pub mod Model
pub mod Choice
pub mod Display
