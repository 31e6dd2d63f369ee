pub mod Folds
pub mod Runs
pub mod Rounds
pub mod Tidies
pub mod Calls
pub mod Law
pub mod Cases
pub mod Examples
