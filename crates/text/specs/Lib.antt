pub mod ClassTests
pub mod Classes
pub mod Sequences
pub mod Units
