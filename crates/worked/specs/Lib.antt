-- Document 01's worked examples.
pub mod Computing
pub mod Thirteen
pub mod Worked
