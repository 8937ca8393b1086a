-- The laws' statements, and what they speak of.
pub mod Statements
pub mod Session
pub mod Examples
pub mod Holds
pub mod Passes
pub mod Chunks
pub mod Needed
pub mod Operands
pub mod Sharing
