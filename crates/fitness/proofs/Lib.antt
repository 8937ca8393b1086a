-- The laws behind the test of fitness.
pub mod Parts
pub mod ClosureFacts
pub mod Facts
pub mod Descriptors
pub mod Keeping
pub mod Storing
pub mod Capturing
