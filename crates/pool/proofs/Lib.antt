pub mod Gathering
pub mod Held
pub mod MadeTexts
pub mod Pushes
pub mod Repeats
pub mod Rows
