-- What writing an image answers, and what it leaves.
pub mod Writing
pub mod Putting
