pub mod Adding
pub mod Made
pub mod Makings
pub mod Memory
pub mod Pieces
pub mod Texts
