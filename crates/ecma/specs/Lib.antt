pub mod Comparison
pub mod Examples
pub mod Integer
pub mod Number
pub mod Operators
pub mod Value
pub mod Spelling
