-- Laws of the quick loop: pairs of a kind and a word, numbers by their words, the arms, strides, what lies between them, and the loop of a run.
pub mod Pairs
pub mod Finite
pub mod Arms
pub mod Rules
pub mod Quickly
pub mod Filling
pub mod Parting
pub mod Clearing
pub mod Calling
pub mod Returning
pub mod Hurried
pub mod Driving
