pub mod Members
pub mod Standing
pub mod Walks
pub mod Certificates
pub mod OneRefusal
pub mod AssignedOnce
pub mod AcceptedFacts
