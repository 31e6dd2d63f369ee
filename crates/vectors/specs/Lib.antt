pub mod Hex
pub mod Line
pub mod Value
pub mod Operations
pub mod Answers
pub mod Faults
