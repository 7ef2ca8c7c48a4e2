pub mod Lefts
pub mod Times
pub mod Decoding
pub mod Whole
pub mod Checking
pub mod Grammar
pub mod SheetGrammar
pub mod Judging
