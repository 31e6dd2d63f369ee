pub mod Answers
pub mod DigitHost
pub mod Either
pub mod Examples
pub mod ListHost
pub mod ListedTexts
pub mod ShortTexts
