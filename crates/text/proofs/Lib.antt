pub mod Counts
pub mod Sequences
